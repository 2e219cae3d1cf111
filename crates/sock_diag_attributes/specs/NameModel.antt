-- The model of the name of a UNIX socket: what contracts see of it.
use Rattle.std.specs.Prelude.{ℕ, List}
use Rattle.std.specs.Borrow.{Bor}
use Rattle.sock_diag_attributes.specs.declared.unix.name.SocketName.{SocketName}
use Rattle.sock_diag_attributes.specs.declared.unix.name.SocketName.TheVariants.{Pathname, Abstract}

-- `socket_name_model bytes name`: the name with its bytes as a list. The function `bytes` returns
-- the list from the type that holds them, such as a `Vec` or a slice.
abbrev pub socket_name_model : {B : Type 0} → (B → List ℕ) → SocketName B → SocketName (List ℕ)
socket_name_model bytes (Pathname path) = Pathname (bytes path)
socket_name_model bytes (Abstract address) = Abstract (bytes address)

-- `name_view_model name`: the model of the borrowed name: the name with the bytes that it borrows
-- (`.now`) as a list
abbrev pub name_view_model : SocketName (Bor (List ℕ)) → SocketName (List ℕ)
name_view_model = socket_name_model (λ bytes. bytes.now)
