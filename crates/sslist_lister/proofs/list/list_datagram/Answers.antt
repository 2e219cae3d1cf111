use Rattle.std.proofs.Common.{None, Some, [], ◌∷◌, ◌++◌, ◌∙◌, append_assoc, arith, refl, rules, sym}
use Rattle.std.proofs.lemmas.List.{append-nil, length-append}
use Rattle.netlink_core.proofs.Datagrams.{shorter-rest}
use Rattle.sslist_lister.specs.Listing.{is_clean_message, message_lines}
use Rattle.sslist_lister.specs.Requests.{past_requests}
use Rattle.sslist_lister.proofs.MessageWalk.{all_read, counted_on, has_bytes, none_read}
use Rattle.sslist_lister.proofs.MessageWalk.{one_more_clean, one_more_diagnosed}
use Rattle.sslist_lister.proofs.MessageWalk.{one_more_listed, one_more_read}
use Rattle.sslist_lister.proofs.list.list_datagram.Goals as goal

pub loop-item-init : goal.loop-item-init
loop-item-init c = rw (c.into_iter-item-iterator.ensures.into_iter_gives, c.new-item-items.ensures)
    record {
      passed = [];
      read = none_read c.args.datagram.now;
      lines = sym (append-nil _);
      clean = refl;
      diagnosed = sym (append-nil _);
      counted = refl;
      front = refl;
    }

pub loop-item-preserved : goal.loop-item-preserved
loop-item-preserved c =
    let starts = rw c.in-Ok.is at c.in-Some.ensures.steps in
    let inv = c.loop-item.invariant in
    let m = c.in-Ok.bytes.now in
    let same = c.new-message.ensures in
    let list = c.in_ok-is_clean-in-Ok.ensures in
    let counted = counted_on _ _ inv.passed _ _ inv.read inv.counted
    (omega (arith, shorter-rest _ _ _ starts.0)) c.next_number-count.ensures in record {
      passed = inv.passed ++ m ∷ [];
      read = one_more_read _ _ _ inv.passed m inv.read starts.0;
      lines = one_more_listed (message_lines c.args.options (past_requests c.args.requests.now))
          inv.passed m _ _ _ _ same inv.lines list.lines;
      clean = one_more_clean is_clean_message inv.passed m _ _ _ same inv.clean list.clean;
      diagnosed = one_more_diagnosed c.args.written.now.front.now c.args.number inv.passed m _ _ _ _
          _ same (omega (arith, counted, inv.counted)) inv.diagnosed
          (rw inv.front at list.diagnosed);
      counted = omega (arith, counted, inv.counted, length-append inv.passed (m ∷ []));
      front = list.front ∙ inv.front;
    }

pub returns-in-Err-clause-lists : goal.returns-in-Err-clause-lists
returns-in-Err-clause-lists c =
    let stop = rw c.in-Err.is at c.in-Some.ensures.steps in
    let inv = c.loop-item.invariant in record {
      messages = inv.passed;
      end = Some c.in-Err.error;
      cut = all_read _ _ inv.passed (Some c.in-Err.error) inv.read (stop.0, stop.1);
      lines = c.in_ok-push_framing_error-in-Err.ensures.lines ∙ inv.lines;
      clean = search rules;
    }

pub returns-in-Err-clause-diagnosed : goal.returns-in-Err-clause-diagnosed
returns-in-Err-clause-diagnosed c =
    let stop = rw c.in-Err.is at c.in-Some.ensures.steps in
    let inv = c.loop-item.invariant in
    let counted = counted_on _ _ inv.passed _ _ inv.read inv.counted (has_bytes _ stop.0)
    c.next_number-count.ensures in record {
      messages = inv.passed;
      end = Some c.in-Err.error;
      cut = all_read _ _ inv.passed (Some c.in-Err.error) inv.read (stop.0, stop.1);
      lines = grind (
        arith,
        append_assoc,
        inv.diagnosed,
        inv.counted,
        rw (counted, inv.front) at c.in_ok-push_framing_error-in-Err.ensures.diagnostics,
      );
    }

pub returns-clause-lists : goal.returns-clause-lists
returns-clause-lists c =
    let inv = c.loop-item.invariant in record {
      messages = inv.passed;
      end = None;
      cut = all_read _ _ inv.passed None inv.read c.in-None.ensures.steps.0;
      lines = inv.lines;
      clean = search rules;
    }

pub returns-clause-diagnosed : goal.returns-clause-diagnosed
returns-clause-diagnosed c =
    let inv = c.loop-item.invariant in record {
      messages = inv.passed;
      end = None;
      cut = all_read _ _ inv.passed None inv.read c.in-None.ensures.steps.0;
      lines = grind (arith, append-nil, inv.diagnosed);
    }
