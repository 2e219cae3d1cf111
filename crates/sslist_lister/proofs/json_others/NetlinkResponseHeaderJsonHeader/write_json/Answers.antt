use Rattle.sslist_lister.proofs.json_others.NetlinkResponseHeaderJsonHeader.write_json.Goals as goal

pub returns-clause-members : goal.returns-clause-members
returns-clause-members c = rw (← c.name_of_other_kind-netid.ensures) c.write_header.ensures.members
