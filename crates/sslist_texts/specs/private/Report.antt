-- Texts of errors in parts.
use Rattle.std.specs.Prelude.{ℕ, List, [], ◌++◌, codes, decimal}
use Rattle.sslist_texts.specs.declared.list_error.ListError.{ListError}
use Rattle.sslist_texts.specs.declared.list_error.ListError.TheVariants.{Packet}

-- the prefix of an error's text: the number of the packet if the error is about a packet, or else
-- nothing
abbrev pub packet_number_prefix : ListError → List ℕ
packet_number_prefix (Packet packet error) = codes "packet " ++ decimal packet ++ codes ": "
packet_number_prefix error = []
