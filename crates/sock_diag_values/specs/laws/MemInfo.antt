-- The layout `mem_info` is sound (`MeetsLayoutConditions`).
use Rattle.std.proofs.Common.{arith, ◌*◌}
use Rattle.netlink_core.specs.laws.LayoutObligations.{MeetsLayoutConditions}
use Rattle.sock_diag_values.specs.MemInfo.{mem_info}

pub mem_info_sound : MeetsLayoutConditions mem_info
mem_info_sound = record {
  size = λ count. 4 * count;
  tables = λ param count left e. grind arith;
  room = λ param count left long e. grind arith;
  own_table = λ value. grind arith;
  enough = λ value. grind arith;
  long = λ value. grind arith;
  named = λ param left e. grind arith;
  kept = λ param count left h e. grind arith;
  tagged = λ param count left e. grind arith;
  shaped = λ param count left h e. tt;
  owned = λ param count left h e. grind arith;
  back = λ param value t n. grind arith;
  tag_written = λ param value t n. grind arith;
}
