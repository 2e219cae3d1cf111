-- The value of an attribute, whatever its kind.
use Rattle.std.specs.Prelude.{ℕ, ◌<◌, ◌^◌, List, [], ◌∷◌, ◌++◌, flat_map, IsUtf8}
use Rattle.std.specs.List.{AllByRecursion}
use Rattle.byteorder.specs.Endian.{little_bytes}
use Rattle.netlink_core.specs.Bytes.{IsBytes}
use Rattle.netlink_core.specs.Layout.{record_bytes, IsInRange}
use Rattle.sock_diag_values.specs.LegacyMemInfo.{legacy_mem_info}
use Rattle.sock_diag_values.specs.MemInfo.{mem_info}
use Rattle.sock_diag_values.specs.TcpInfo.{tcp_info}
use Rattle.sock_diag_values.specs.UnixMemInfo.{unix_mem_info}
use Rattle.sock_diag_values.specs.Vfs.{vfs}
use Rattle.sock_diag_attributes.specs.Name.{name_bytes}
use Rattle.sock_diag_attributes.specs.NameModel.{name_view_model}
use Rattle.sock_diag_attributes.specs.declared.value.Value.{Value}
use Rattle.sock_diag_attributes.specs.declared.value.Value.TheVariants as value

-- `value_bytes value`: the bytes that the value serializes to. `.now` is what a reference borrows,
-- and `record_bytes layout` the bytes of a record.
abbrev pub value_bytes : Value → List ℕ
value_bytes (value.U8 n) = little_bytes 1 n
value_bytes (value.U32 n) = little_bytes 4 n
value_bytes (value.U32Pair first second) = little_bytes 4 first ++ little_bytes 4 second
value_bytes (value.Numbers numbers) = flat_map (little_bytes 4) numbers.now
value_bytes (value.Text text) = text.now ++ 0 ∷ []
value_bytes (value.Name name) = name_bytes (name_view_model name)
value_bytes (value.LegacyMemInfo memory) = record_bytes legacy_mem_info memory.now
value_bytes (value.TcpInfo info) = record_bytes tcp_info info.now
value_bytes (value.MemInfo memory) = record_bytes mem_info memory.now
value_bytes (value.UnixMemInfo memory) = record_bytes unix_mem_info memory.now
value_bytes (value.Vfs file) = record_bytes vfs file.now
value_bytes (value.Bytes bytes) = bytes.now

-- `IsValueInRange value`: each number of the value fits its type, and a text is UTF-8. `256 ^ 4`
-- and `2 ^ 32` are the same bound of a `u32`; each is written as in the codec of the attribute.
abbrev pub IsValueInRange : Value → Type 0
IsValueInRange (value.U8 n) = n < 256
IsValueInRange (value.U32 n) = n < 256 ^ 4
IsValueInRange (value.U32Pair first second) = (first < 2 ^ 32) × (second < 2 ^ 32)
IsValueInRange (value.Numbers numbers) = AllByRecursion (λ n. n < 2 ^ 32) numbers.now
IsValueInRange (value.Text text) = IsUtf8 text.now × IsBytes text.now
IsValueInRange (value.Name name) = IsBytes (name_bytes (name_view_model name))
IsValueInRange (value.LegacyMemInfo memory) = IsInRange legacy_mem_info memory.now
IsValueInRange (value.TcpInfo info) = IsInRange tcp_info info.now
IsValueInRange (value.MemInfo memory) = IsInRange mem_info memory.now
IsValueInRange (value.UnixMemInfo memory) = IsInRange unix_mem_info memory.now
IsValueInRange (value.Vfs file) = IsInRange vfs file.now
IsValueInRange (value.Bytes bytes) = IsBytes bytes.now
