-- Keywords of a filter's text, and what the operators of conditions mean.
use Rattle.std.specs.Prelude.{ℕ, Bool, true, false, List, Option}
use Rattle.sock_diag_filters.specs.Rows.{value_of}
use Rattle.sock_diag_filters.specs.declared.condition.Comparison.{Comparison}
use Rattle.sock_diag_filters.specs.declared.condition.Comparison.TheVariants as comparisons
use Rattle.sock_diag_filters.specs.declared.text.keywords.Field.{Field}
use Rattle.sock_diag_filters.specs.declared.text.keywords.Field.TheVariants as fields
use Rattle.sock_diag_filters.specs.declared.text.keywords.Keyword.{Keyword}
use Rattle.sock_diag_filters.specs.declared.text.keywords.Keyword.TheVariants as keywords
use Rattle.sock_diag_filters.specs.declared.text.keywords.Operator.{Operator}
use Rattle.sock_diag_filters.specs.declared.text.keywords.Operator.TheVariants.{AtLeast, AtMost}
use Rattle.sock_diag_filters.specs.declared.text.keywords.Operator.TheVariants.{Equal, Greater}
use Rattle.sock_diag_filters.specs.declared.text.keywords.Operator.TheVariants.{Less, NotEqual}
use Rattle.sock_diag_filters.specs.declared.text.keywords.TheConstants.{KEYWORDS}

-- The keyword that a word is, or `None` if it is none, and so a value.
unfoldable pub keyword_named : List ℕ → Option Keyword
keyword_named word = value_of KEYWORDS word

-- An operand begins with the keyword.
abbrev pub begins_operand : Keyword → Bool
begins_operand keywords.Open = true
begins_operand keywords.Not = true
begins_operand (keywords.Field field) = true
begins_operand keywords.AutoBound = true
begins_operand keyword = false

-- `takes field operator`: conditions on the field have this operator. Ports have all operators,
-- addresses only `=`, and other numbers `=` and `!=`.
abbrev pub takes : Field → Operator → Bool
takes fields.SourcePort operator = true
takes fields.DestinationPort operator = true
takes field Equal = true
takes fields.Source operator = false
takes fields.Destination operator = false
takes field NotEqual = true
takes field operator = false

-- The comparison of an operator: its own, or that of its opposite if it is negated: `!=` is not
-- `=`, `<` is not `>=`, and `>` is not `<=`.
abbrev pub comparison_of : Operator → Comparison
comparison_of Equal = comparisons.Equal
comparison_of NotEqual = comparisons.Equal
comparison_of AtLeast = comparisons.AtLeast
comparison_of Less = comparisons.AtLeast
comparison_of AtMost = comparisons.AtMost
comparison_of Greater = comparisons.AtMost

-- The operator is the opposite of its comparison.
abbrev pub is_negated : Operator → Bool
is_negated Equal = false
is_negated NotEqual = true
is_negated AtLeast = false
is_negated Less = true
is_negated AtMost = false
is_negated Greater = true
