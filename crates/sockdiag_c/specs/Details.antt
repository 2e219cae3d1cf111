-- The rows of the tables of the families, by what the struct has: a number, a text or a record.
use Rattle.std.specs.Prelude.{ℕ, ◌==◌, if◌then◌else◌, List, Option, Some, None, option_map}
use Rattle.std.specs.Prelude.{option_and_then}
use Rattle.sock_diag_values.specs.declared.inet.mem_info.MemInfo.{MemInfo}
use Rattle.sockdiag_c.specs.Family.{StructRow}
use Rattle.sockdiag_c.specs.declared.details.Number.{Number}
use Rattle.sockdiag_c.specs.declared.details.Text.{Text}
use Rattle.sockdiag_c.specs.declared.details.TheConstants.{BYTES}
use Rattle.sockdiag_c.specs.declared.family_values.Memory.{Memory}

-- `optional_number o`: the `struct sockdiag_number` of the number `o`: `is_set` is 1, and `value`
-- is the number. If there is no number (None), both are 0.
abbrev pub optional_number : Option ℕ → Number
optional_number (Some n) = record { is_set = 1; value = n }
optional_number None = record { is_set = 0; value = 0 }

-- `text_parts text`: the kind and the bytes of a `struct sockdiag_text`; None if its kind is 0,
-- which means that there is no text, whatever its bytes.
abbrev pub text_parts : Text → Option (ℕ × List ℕ)
text_parts text = if text.kind == 0 then None else Some (text.kind, text.bytes.now)

-- `optional_record zero o`: the contents of a field `has_..` and of the record that it is about: 1
-- and the record `o`. If there is no record (None), 0 and `zero`, the record of zeros.
abbrev pub optional_record : {A : Type 0} → A → Option A → ℕ × A
optional_record zero (Some x) = (1, x)
optional_record zero None = (0, zero)

-- `memory_struct m`: `struct sockdiag_memory` from the memory counters of a reply. If the reply has
-- none (`m` is None), no number is present. Otherwise the first seven are present, and each of the
-- last two is present if the value has it.
abbrev pub memory_struct : Option MemInfo → Memory
memory_struct m = record {
  receive_queue = optional_number (option_map (λ (m : MemInfo). m.receive_queue) m);
  receive_queue_max = optional_number (option_map (λ (m : MemInfo). m.receive_queue_max) m);
  bottom_send_queues = optional_number (option_map (λ (m : MemInfo). m.bottom_send_queues) m);
  send_queue_max = optional_number (option_map (λ (m : MemInfo). m.send_queue_max) m);
  cache = optional_number (option_map (λ (m : MemInfo). m.cache) m);
  send_queue = optional_number (option_map (λ (m : MemInfo). m.send_queue) m);
  options = optional_number (option_map (λ (m : MemInfo). m.options) m);
  backlog_queue_length = optional_number
      (option_and_then (λ (m : MemInfo). m.backlog_queue_length) m);
  drops = optional_number (option_and_then (λ (m : MemInfo). m.drops) m);
}

-- Rows of a table for the struct `D`. In each of them, `part v` is the part that what an attribute
-- says, `v`, has for the row, and the last argument `fields` returns the fields of a struct that
-- have this part.
module _ {V D : Type 0} where
  -- `number_row part fields`: the row of a number
  abbrev pub number_row : (V → Option ℕ) → (D → Number) → StructRow V D
  number_row part fields = record {
    Part = ℕ;
    part = part;
    Fields = Number;
    fields = fields;
    contents = optional_number;
  }

  -- `text_row part fields`: the row of a text. The part is its kind and its bytes.
  abbrev pub text_row : (V → Option (ℕ × List ℕ)) → (D → Text) → StructRow V D
  text_row part fields = record {
    Part = ℕ × List ℕ;
    part = part;
    Fields = Option (ℕ × List ℕ);
    fields = λ d. text_parts (fields d);
    contents = λ o. o;
  }

  -- `bytes_row part fields`: the row of bytes, as a text of the kind SOCKDIAG_BYTES
  abbrev pub bytes_row : (V → Option (List ℕ)) → (D → Text) → StructRow V D
  bytes_row part = text_row (λ v. option_map (λ bytes. (BYTES, bytes)) (part v))

  -- `record_row part zero fields`: the row of a record. The fields are a field `has_..` and the
  -- record. They are 1 and the record, or 0 and the record `zero` if there is none.
  abbrev pub record_row : {A : Type 0} → (V → Option A) → A → (D → ℕ × A) → StructRow V D
  record_row {A} part zero fields = record {
    Part = A;
    part = part;
    Fields = ℕ × A;
    fields = fields;
    contents = optional_record zero;
  }

  -- `memory_row part fields`: the row of the memory counters `SK_MEMINFO_..`
  abbrev pub memory_row : (V → Option MemInfo) → (D → Memory) → StructRow V D
  memory_row part fields = record {
    Part = MemInfo;
    part = part;
    Fields = Memory;
    fields = fields;
    contents = memory_struct;
  }
