use Rattle.std.proofs.Common.{◌⊎◌, inl, inr, Result, Ok, Err, IsOk, arith}
use Rattle.netlink_packet_sock_diag.proofs.dump.lossy.LossyDump.feed.Goals as goal

-- an entry that may need memory is a valid message
accepted_or_full : {A E F : Type 0} (stops_at : Result A E → Type 0)
    → ((m : Result A E) × stops_at m × (IsOk m ⊎ F)) → ((a : A) × stops_at (Ok a)) ⊎ F
accepted_or_full stops_at (Ok a, stops, why) = inl (a, stops)
accepted_or_full stops_at (Err e, stops, inl never) = grind arith
accepted_or_full stops_at (Err e, stops, inr full) = inr full

pub returns-clause-memory : goal.returns-clause-memory
returns-clause-memory c = λ memory.
    let stops = accepted_or_full _ (c.feed.ensures.memory memory) in stops
