use Rattle.std.proofs.Common.{◌∙◌, ◌+◌, ℕ, sym, ap}
use Rattle.std.specs.Prelude.{map}
use Rattle.sock_diag_filters.specs.Requests.{request_attribute}
use Rattle.sock_diag_filters.proofs.Requesting.{request_message_length}
use Rattle.sock_diag_filters.proofs.request.RequestWithAttributesEmitable.buffer_len.Goals as goal

pub returns : goal.returns
returns c =
    let request = c.args.self.now in
    ap (λ (n : ℕ). 72 + n) c.nlas_len.ensures
    ∙ sym (request_message_length request.header request.request
    (map request_attribute request.attributes.now))
