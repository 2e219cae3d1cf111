-- Models of borrowed requests: their content, with borrowed bytes as lists. By `==`, two requests
-- are equal if and only if their models are (`src/laws.rt`).
use Rattle.std.specs.Prelude.{ℕ, List, Option, option_map}
use Rattle.netlink_core.specs.declared.header.NetlinkHeader.{NetlinkHeader}
use Rattle.sock_diag_families.specs.declared.request.ShowRequest.{ShowRequest}
use Rattle.sock_diag_families.specs.declared.vsock.request.VsockRequest.{VsockRequest}
use Rattle.sock_diag_records.specs.declared.constants.TheConstants.{AF_NETLINK, AF_PACKET}
use Rattle.sock_diag_families.specs.declared.xdp.TheConstants.{AF_XDP}
use Rattle.sock_diag_records.specs.declared.inet.request.InetRequest.{InetRequest}
use Rattle.sock_diag_records.specs.declared.unix.request.UnixRequest.{UnixRequest}
use Rattle.sock_diag_filters.specs.declared.any.AnyRequestView.{AnyRequestView}
use Rattle.sock_diag_filters.specs.declared.any.AnyRequestView.TheVariants as view
use Rattle.sock_diag_filters.specs.declared.any.RecordRequestView.{RecordRequestView}
use Rattle.sock_diag_filters.specs.declared.view.RequestView.{RequestView}

-- The model of a request for IPv4 or IPv6 sockets: the header, the record, the protocol and the
-- program.
pub record InetRequestModel : Type 0 where
  pub header : NetlinkHeader
  pub request : InetRequest
  pub protocol : ℕ
  pub program : Option (List ℕ)

-- The model of a `RequestView`.
abbrev pub request_view_model : RequestView → InetRequestModel
request_view_model v = record {
  header = v.header;
  request = v.request;
  protocol = v.protocol;
  program = option_map (λ program. program.now) v.program;
}

-- The model of a request for sockets of another family: the header, the record, which is of the
-- type `R`, and the bytes after it.
pub record RecordRequestModel (R : Type 0) : Type 0 where
  pub header : NetlinkHeader
  pub request : R
  pub attributes : List ℕ

-- The model of a `RecordRequestView`.
abbrev pub record_request_view_model : {R : Type 0} → RecordRequestView R → RecordRequestModel R
record_request_view_model v = record {
  header = v.header;
  request = v.request;
  attributes = v.attributes.now;
}

-- The model of a request for sockets of any family. Unlike `AnyRequest`, it has a case for each
-- Rust type of a record. The argument of `ShowRequest` is the family.
pub data AnyRequestModel : Type 0 where
  of_inet : InetRequestModel → AnyRequestModel
  of_unix : RecordRequestModel UnixRequest → AnyRequestModel
  of_netlink : RecordRequestModel (ShowRequest AF_NETLINK) → AnyRequestModel
  of_packet : RecordRequestModel (ShowRequest AF_PACKET) → AnyRequestModel
  of_vsock : RecordRequestModel VsockRequest → AnyRequestModel
  of_xdp : RecordRequestModel (ShowRequest AF_XDP) → AnyRequestModel

-- The model of an `AnyRequestView`.
abbrev pub any_request_view_model : AnyRequestView → AnyRequestModel
any_request_view_model (view.Inet v) = of_inet (request_view_model v)
any_request_view_model (view.Unix v) = of_unix (record_request_view_model v)
any_request_view_model (view.Netlink v) = of_netlink (record_request_view_model v)
any_request_view_model (view.Packet v) = of_packet (record_request_view_model v)
any_request_view_model (view.Vsock v) = of_vsock (record_request_view_model v)
any_request_view_model (view.Xdp v) = of_xdp (record_request_view_model v)
