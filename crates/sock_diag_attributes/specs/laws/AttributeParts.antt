-- The Rust types of the parts of attributes, as the logic represents them. Laws about `==` use only
-- the values, so that any lifetime can be chosen.
use Rattle.std.specs.Prelude.{[]}
use Rattle.std.specs.Borrow.{RattleType, u8, u32}
use mir.Syntax.{named}
use denote.Slice.{ShrSlice}
use Rattle.std.specs.contracts.alloc.Global as global
use Rattle.std.specs.contracts.string.String as text
use Rattle.std.specs.contracts.vec.Vec as vec
use Rattle.std.specs.contracts.impls.GlobalAllocator.TheImpl.{ghosts}
use Rattle.netlink_core.specs.contracts.attribute.NlaBuffer as buffer
use Rattle.netlink_core.specs.contracts.nla.DefaultNla as kept
use Rattle.sock_diag_attributes.specs.contracts.numbers.NumbersView as numbers
use Rattle.sock_diag_attributes.specs.contracts.unix.name.SocketName as name

-- of `String`
abbrev pub text_type : RattleType
text_type = text.the_row global.the_row ghosts

-- of `&str` and of `&[u8]`
abbrev pub text_view_type : RattleType
text_view_type = ShrSlice (named 0) [] u8

-- of `DefaultNla`
abbrev pub default_nla_type : RattleType
default_nla_type = kept.the_row

-- of `NlaBuffer`
abbrev pub buffer_type : RattleType
buffer_type = buffer.the_row (record { mir = named 0; lft = [] })

-- of `Vec<u8>`
abbrev pub byte_list_type : RattleType
byte_list_type = vec.the_row u8 global.the_row ghosts

-- of `UnixDiagName`
abbrev pub name_type : RattleType
name_type = name.the_row byte_list_type

-- of `NameView`
abbrev pub name_view_type : RattleType
name_view_type = name.the_row text_view_type

-- of `Vec<u32>`
abbrev pub list_type : RattleType
list_type = vec.the_row u32 global.the_row ghosts

-- of `NumbersView`
abbrev pub numbers_type : RattleType
numbers_type = numbers.the_row (record { mir = named 0; lft = [] })
