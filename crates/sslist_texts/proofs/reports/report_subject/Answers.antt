use Rattle.sslist_texts.proofs.reports.report_subject.Goals as goal

pub returns-in-Packet : goal.returns-in-Packet
returns-in-Packet g c = rw c.in-Packet.is c.report_packet.ensures
