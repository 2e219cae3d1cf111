use Rattle.std.proofs.Common.{◌∙◌, ◌++◌, arith, inr, length-append, sym}
use Rattle.std.proofs.KnownBytes.{Consumes-trans}
use Rattle.netlink_captures.proofs.PcapngLemmas.{is_section_header-append}
use Rattle.netlink_captures.proofs.ReaderLemmas.{pcap_stop}
use Rattle.netlink_captures.proofs.reader.CaptureReader.open.Goals as goal

pub returns-in-Ok-clause-read : goal.returns-in-Ok-clause-read
returns-in-Ok-clause-read g c =
    let head = c.in_ok-read_head.ensures.read.1 in
    let (more, content, read, moves) = c.in-Ok.ensures.read in
    let begins = is_section_header-append c.read_head.new.head more (omega arith)
    ∙ sym c.is_section_header.ensures ∙ c.if-is_section_header.true in (
      c.read_head.new.head ++ more,
      (moves.0, content, begins, moves.1, moves.2),
      Consumes-trans _ _ _ _ _ head read,
    )

pub returns-in-Err-clause-stopped : goal.returns-in-Err-clause-stopped
returns-in-Err-clause-stopped g c =
    let head = c.in_ok-read_head.ensures.read.1 in
    let (part, read, stop) = c.in-Err.ensures.stopped in
    let begins = is_section_header-append c.read_head.new.head part (omega arith)
    ∙ sym c.is_section_header.ensures ∙ c.if-is_section_header.true in (
      c.read_head.new.head ++ part,
      Consumes-trans _ _ _ _ _ head read,
      inr (inr (begins, stop)),
    )

pub returns-in-Err-open_pcap-clause-stopped : goal.returns-in-Err-open_pcap-clause-stopped
returns-in-Err-open_pcap-clause-stopped g c =
    let head = c.in_ok-read_head.ensures.read.1 in
    let (part, read, stop) = c.in-Err-open_pcap.ensures.stopped in (
      c.read_head.new.head ++ part,
      Consumes-trans _ _ _ _ _ head read,
      pcap_stop _ _ c.read_head.new.head part _ (omega arith) c.in_ok-read_head.ensures.read.0
          (sym c.is_section_header.ensures ∙ c.if-is_section_header.false) stop,
    )

pub returns-in-Ok-open_pcap-clause-read : goal.returns-in-Ok-open_pcap-clause-read
returns-in-Ok-open_pcap-clause-read g c =
    let head = c.read_head.new.head in
    let (more, count, content, read) = c.in-Ok-open_pcap.ensures.read in (
      head ++ more,
      (omega (arith, count, length-append head more), content),
      Consumes-trans _ _ _ _ _ c.in_ok-read_head.ensures.read.1 read,
    )
