-- The inverse of the layout `vfs`.
use Rattle.std.specs.Prelude.{ℕ, List, slice_index}
use Rattle.sock_diag_values.specs.declared.unix.vfs.Vfs.{Vfs}

-- `vfs_of values`: the value with these numbers in its fields, in the order of the rows of `vfs`
abbrev pub vfs_of : List ℕ → Vfs
vfs_of values = record { inode = slice_index values 0; device = slice_index values 1 }
