use Rattle.std.proofs.Common.{arith}
use Rattle.netlink_core.proofs.ValueTests.{value_test}
use Rattle.sock_diag_attributes.specs.laws.EqualInet.{inet_tests, inet_test_is_model_test}
use Rattle.sock_diag_attributes.specs.laws.AttributeParts.{buffer_type, text_view_type}
use Rattle.sock_diag_replies.specs.laws.EqualResponse.{attribute_test_decides_rest}
use Rattle.sock_diag_replies.proofs.inet.reply.InetResponseHeaderReplyHeader.is_same.Goals as goal

pub returns-then-eq : goal.returns-then-eq
returns-then-eq c =
    grind (
      arith,
      attribute_test_decides_rest,
      value_test,
      inet_tests,
      inet_test_is_model_test,
      text_view_type,
      buffer_type,
      c.eq.ensures,
      c.same_views.ensures,
    )
