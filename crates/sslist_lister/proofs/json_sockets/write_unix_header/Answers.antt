use Rattle.std.proofs.lemmas.Result.{on_ok_weaker}
use Rattle.sslist_lister.specs.JsonSockets.{unix_header_members}
use Rattle.sslist_texts.proofs.JsonWriting.{joined_members}
use Rattle.sslist_lister.proofs.json_sockets.write_unix_header.Goals as goal

pub returns-clause-members : goal.returns-clause-members
unfolding unix_header_members
returns-clause-members c =
    rw (← c.name_of_unix_kind.ensures, ← c.name_of_state.ensures)
    (on_ok_weaker c.write_cookie.result
    (λ last. joined_members _ _ _ _ _ c.in_ok-write_text.ensures.members
    (joined_members _ _ _ _ _ c.in_ok-write_text-2.ensures.members
    (joined_members _ _ _ _ _ c.in_ok-write_numbers.ensures.members last)))
    c.write_cookie.ensures.members)
