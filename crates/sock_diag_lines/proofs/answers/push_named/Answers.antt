use Rattle.sock_diag_lines.proofs.answers.push_named.Goals as goal

pub returns-in-UnixRequest : goal.returns-in-UnixRequest
returns-in-UnixRequest c = rw c.in-UnixRequest.is c.push_canonical.ensures

pub returns-in-InetRequest : goal.returns-in-InetRequest
returns-in-InetRequest c = rw c.in-InetRequest.is c.push_canonical-in-InetRequest.ensures

pub returns-in-SocketId4 : goal.returns-in-SocketId4
returns-in-SocketId4 c = rw c.in-SocketId4.is c.push_canonical-in-SocketId4.ensures

pub returns-in-SocketId6 : goal.returns-in-SocketId6
returns-in-SocketId6 c = rw c.in-SocketId6.is c.push_canonical-in-SocketId6.ensures

pub returns-in-UnixResponse : goal.returns-in-UnixResponse
returns-in-UnixResponse c = rw c.in-UnixResponse.is c.push_canonical-in-UnixResponse.ensures

pub returns-in-InetResponse : goal.returns-in-InetResponse
returns-in-InetResponse c = rw c.in-InetResponse.is c.push_canonical-in-InetResponse.ensures

pub returns-in-Message : goal.returns-in-Message
returns-in-Message c = rw c.in-Message.is c.push_canonical-in-Message.ensures

pub returns-in-NetlinkMessage : goal.returns-in-NetlinkMessage
returns-in-NetlinkMessage c = rw c.in-NetlinkMessage.is c.push_netlink_message.ensures

pub returns-in-UnixView : goal.returns-in-UnixView
returns-in-UnixView c = rw c.in-UnixView.is c.push_view.ensures
