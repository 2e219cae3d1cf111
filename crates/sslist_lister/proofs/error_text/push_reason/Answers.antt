use Rattle.std.proofs.Common.{append-nil}
use Rattle.sslist_lister.specs.Diagnostics.{diagnostic_text}
use Rattle.sslist_lister.specs.declared.list.Diagnostic.TheVariants.{Interrupted, Invalid, Lost}
use Rattle.sslist_lister.specs.declared.list.Diagnostic.TheVariants.{NoEntry, NoNumber}
use Rattle.sslist_texts.proofs.Adding.{appended_on_success}
use Rattle.sslist_lister.proofs.error_text.push_reason.Goals as goal

pub returns-in-Refused : goal.returns-in-Refused
returns-in-Refused c = rw c.in-Refused.is c.push_decode_error.ensures

pub returns-in-Answered : goal.returns-in-Answered
returns-in-Answered c = rw c.in-Answered.is (rw append-nil at c.push_sentence.ensures)

pub returns-in-NoEntry : goal.returns-in-NoEntry
returns-in-NoEntry c =
    let old = c.args.text.now.items in
    rw c.in-NoEntry.is (appended_on_success _ old _ (diagnostic_text NoEntry) old
    c.extend_from_slice.ensures.items)

pub returns-in-Invalid : goal.returns-in-Invalid
returns-in-Invalid c =
    let old = c.args.text.now.items in
    rw c.in-Invalid.is (appended_on_success _ old _ (diagnostic_text Invalid) old
    c.extend_from_slice-in-Invalid.ensures.items)

pub returns-in-Interrupted : goal.returns-in-Interrupted
returns-in-Interrupted c =
    let old = c.args.text.now.items in
    rw c.in-Interrupted.is (appended_on_success _ old _ (diagnostic_text Interrupted) old
    c.extend_from_slice-in-Interrupted.ensures.items)

pub returns-in-Lost : goal.returns-in-Lost
returns-in-Lost c =
    let old = c.args.text.now.items in
    rw c.in-Lost.is (appended_on_success _ old _ (diagnostic_text Lost) old
    c.extend_from_slice-in-Lost.ensures.items)

pub returns-in-NoNumber : goal.returns-in-NoNumber
returns-in-NoNumber c =
    let old = c.args.text.now.items in
    rw c.in-NoNumber.is (appended_on_success _ old _ (diagnostic_text NoNumber) old
    c.extend_from_slice-in-NoNumber.ensures.items)
