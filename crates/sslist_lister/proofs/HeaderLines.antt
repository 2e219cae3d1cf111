-- The lines of replies about netlink and XDP sockets.
use Rattle.std.proofs.Common.{◌≡◌, ℕ, List, Option, refl}
use Rattle.sock_diag_any.specs.declared.header.AnyHeader.{AnyHeader}
use Rattle.sock_diag_any.specs.declared.header.AnyHeader.TheVariants as reply
use Rattle.sock_diag_any.specs.declared.nla.Sockets.TheVariants as about
use Rattle.sock_diag_families.specs.declared.netlink.response.NetlinkResponseHeader.{
  NetlinkResponseHeader,
}
use Rattle.sock_diag_families.specs.declared.xdp.response.XdpResponseHeader.{XdpResponseHeader}
use Rattle.sslist_lister.specs.Collected.{summary_of}
use Rattle.sslist_lister.specs.JsonListing.{other_output}
use Rattle.sslist_lister.specs.JsonOthers.{netlink_header_members, xdp_header_members}
use Rattle.sslist_lister.specs.Listing.{after_header, header_lines}
use Rattle.sslist_lister.specs.Others.{netlink_socket, xdp_socket}
use Rattle.sslist_command_line.specs.declared.options.Options.{Options}

-- A netlink socket is shown by its header and the attributes after it.
pub netlink_lines : (o : Options) (list : ℕ) (requested : Option ℕ) (b bytes : List ℕ)
    (any : AnyHeader) (h : NetlinkResponseHeader) → any ≡ reply.Netlink h
    → bytes ≡ after_header b any
    → other_output o list (netlink_socket h (summary_of about.Netlink bytes))
    (netlink_header_members h) (summary_of about.Netlink bytes)
    ≡ header_lines o list requested b any
unfolding summary_of
netlink_lines o list requested b bytes any h is same = rw (same, is) refl

-- So is an XDP socket.
pub xdp_lines : (o : Options) (list : ℕ) (requested : Option ℕ) (b bytes : List ℕ)
    (any : AnyHeader) (h : XdpResponseHeader) → any ≡ reply.Xdp h
    → bytes ≡ after_header b any
    → other_output o list (xdp_socket h (summary_of about.Xdp bytes)) (xdp_header_members h)
    (summary_of about.Xdp bytes) ≡ header_lines o list requested b any
unfolding summary_of
xdp_lines o list requested b bytes any h is same = rw (same, is) refl
