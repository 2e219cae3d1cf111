use Rattle.std.proofs.Common.{slice_index}
use Rattle.std.proofs.lemmas.List.{take_rest}
use Rattle.sslist_lister.proofs.requests.query_of.Goals as goal

pub returns : goal.returns
returns c =
    let request = c.args.request.now in
    let payload = request.payload.now in
    let found = rw (take_rest payload 56) at c.find_last_of_kind-attribute.ensures in
    let protocol = rw found at c.choose_protocol.ensures in
    let states = rw (take_rest payload 4) at c.read_u32.ensures in
    λ i. record {
      sequence_number = request.header.sequence_number;
      port_number = request.header.port_number;
      protocol = protocol i;
      family = slice_index payload 0;
      states = states i;
    }
