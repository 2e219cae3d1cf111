use Rattle.std.proofs.Common.{◌≡◌, Bool, false, not, Result, Ok, Err, refl, arith}
use Rattle.std.proofs.Math.Logic.{∥∥₁_map}
use Rattle.netlink_core.specs.declared.error.DecodeError.{DecodeError}
use Rattle.netlink_packet_sock_diag.specs.declared.dump.DumpError.{DumpError}
use Rattle.netlink_packet_sock_diag.specs.declared.dump.DumpError.TheVariants.{Fault}
use Rattle.netlink_packet_sock_diag.specs.contracts.dump.DumpState.{the_type}
use Rattle.netlink_packet_sock_diag.specs.declared.dump.DumpState.TheVariants.{Reading}
use Rattle.netlink_packet_sock_diag.specs.Dump.{DumpStatus}
use Rattle.netlink_packet_sock_diag.proofs.DumpRows.{reading_status, reading_has_no_error_number}
use Rattle.netlink_packet_sock_diag.proofs.Feeding.{reached_by_one_more}
use Rattle.netlink_packet_sock_diag.proofs.dump.generic.GenericDump.feed.Goals as goal
use denote.Enum.Bare.{sameb}

-- a dump that has not ended has no error number
still_reading : (status : DumpStatus) (differs : Bool)
    → (status.0 ≡ Reading → status ≡ reading_status)
    → differs ≡ not (sameb the_type status.0 Reading) → differs ≡ false
    → status ≡ reading_status
still_reading status differs first is equal =
    grind (arith, first)

-- equal results have equal errors
same_error_value : (e f : DecodeError)
    → ◌≡◌ {A = Result Unit DumpError} (Err (Fault e)) (Err (Fault f))
    → e ≡ f
same_error_value e f same = grind arith

pub invariant_of-self : goal.invariant_of-self
invariant_of-self g c =
    let dump = c.args.self.now in
    let read = still_reading dump.status _ dump.unnumbered c.ne.ensures c.if-ne.false in
    let took = c.in-Ok.ensures in
    record {
      unnumbered = reading_has_no_error_number took.2.1 c.in-Ok.status took.2.5;
      fed = ∥∥₁_map dump.fed
          (λ some. reached_by_one_more g.I.DumpEntry.item_is _ _ c.args.datagram.now
          (Ok tt)
          some (read, took));
    }

pub invariant_of-self-in-Err : goal.invariant_of-self-in-Err
invariant_of-self-in-Err g c =
    let dump = c.args.self.now in
    let read = still_reading dump.status _ dump.unnumbered c.ne.ensures c.if-ne.false in
    let took = c.in-Err.ensures in
    record {
      unnumbered = λ is. cc;
      fed = ∥∥₁_map dump.fed
          (λ some. reached_by_one_more g.I.DumpEntry.item_is _ _ c.args.datagram.now
          (Err (Fault c.in-Err.error)) some
          (read, refl, took.0, λ memory. let stops = took.1 memory in (stops.0, stops.1)));
    }

pub returns-in-Ok-clause-leaves : goal.returns-in-Ok-clause-leaves
returns-in-Ok-clause-leaves g c =
    let dump = c.args.self.now in
    let read = still_reading dump.status _ dump.unnumbered c.ne.ensures c.if-ne.false in
    (read, c.in-Ok.ensures)

pub returns-in-Err-clause-leaves : goal.returns-in-Err-clause-leaves
returns-in-Err-clause-leaves g c =
    let dump = c.args.self.now in
    let read = still_reading dump.status _ dump.unnumbered c.ne.ensures c.if-ne.false in
    let took = c.in-Err.ensures in
    (read, refl, took.0, λ memory. let stops = took.1 memory in (stops.0, stops.1))

pub returns-in-Err-clause-memory : goal.returns-in-Err-clause-memory
returns-in-Err-clause-memory g c = λ memory. c.in-Err.ensures.1 (same_error_value _ _ memory)
