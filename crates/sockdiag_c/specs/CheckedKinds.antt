-- How the attributes of UNIX and internet sockets are read. The values of the kinds that the checks
-- know are checked, those of other kinds are not.
use Rattle.std.specs.Prelude.{Option, None, Some, Result, Ok, Err, unwrap_or}
use Rattle.std.specs.Result.{result_err, result_ok}
use Rattle.netlink_core.specs.Attribute.{Attribute}
use Rattle.netlink_core.specs.AttributeSet.{AttributeSet, decode_attribute}
use Rattle.netlink_core.specs.declared.error.DecodeError.{DecodeError}
use Rattle.sock_diag_any.specs.AnyNla.{AnyValue, read_any, unknown}
use Rattle.sock_diag_any.specs.declared.nla.Sockets.{Sockets}

-- `unless_error error value`: the error, if there is one, else the value
abbrev pub unless_error : Option DecodeError → AnyValue → Result AnyValue DecodeError
unless_error (Some e) value = Err e
unless_error None value = Ok value

-- `read_checked set of_sockets a`: what the attribute `a` of a reply about these sockets says; or
-- its error, if the checks, whose kinds are those of the set, reject it. An attribute that they do
-- not check has no error: with an invalid value it says no more than one of an unknown kind.
abbrev pub read_checked : AttributeSet → Sockets → Attribute → Result AnyValue DecodeError
read_checked set of_sockets a =
    unless_error (result_err (decode_attribute set a))
    (unwrap_or (result_ok (read_any of_sockets a)) (unknown a))
