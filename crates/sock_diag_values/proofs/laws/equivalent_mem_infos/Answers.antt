use Rattle.std.proofs.Common.{◌≡◌, ◌⊎◌, ◌≤◌, ℕ, List, length, Result, Ok, sym, ap, ◌∙◌, arith}
use Rattle.netlink_core.specs.declared.error.DecodeError.{DecodeError}
use Rattle.netlink_core.specs.Layout.{tag_fields}
use Rattle.netlink_core.proofs.TableLaws.{significant_masks}
use Rattle.netlink_core.proofs.SignificantBits.{equivalent_by_condition}
use Rattle.sock_diag_values.specs.MemInfo.{mem_info, mem_info_u32_count}
use Rattle.sock_diag_values.specs.laws.MemInfo.{mem_info_sound}
use Rattle.sock_diag_values.specs.SignificantBits.{mem_info_masks, complete_u32s_in}
use Rattle.sock_diag_values.proofs.laws.equivalent_mem_infos.Goals as goal

abbrev ok_count : ℕ → Result ℕ DecodeError
ok_count count = Ok count

-- from 28 bytes on, the layout and the contract count the same fields
count_is : (b : List ℕ) → 28 ≤ length b → mem_info_u32_count (length b) ≡ complete_u32s_in b
count_is b h = grind arith

same_count : (b : List ℕ) (count : ℕ) → 28 ≤ length b
    → ok_count (mem_info_u32_count (length b)) ≡ ok_count count → complete_u32s_in b ≡ count
same_count b count h e = grind (arith, count_is b h)

seven_to_nine : (b : List ℕ) → 28 ≤ length b
    → (complete_u32s_in b ≡ 7) ⊎ ((complete_u32s_in b ≡ 8) ⊎ (complete_u32s_in b ≡ 9))
seven_to_nine b h = grind arith

-- for 7, 8 and 9 fields, all bits are significant
masks_of_mem_info : (count : ℕ) → (count ≡ 7) ⊎ ((count ≡ 8) ⊎ (count ≡ 9))
    → significant_masks (tag_fields mem_info count) ≡ mem_info_masks count
masks_of_mem_info count h = grind arith

pub returns : goal.returns
returns c = λ x y hx hy.
    let count = complete_u32s_in x in
    equivalent_by_condition mem_info mem_info_sound tt (mem_info_masks count)
    (count ≡ complete_u32s_in y) x y hx hy
    (λ lx ly tag here there.
    let is = same_count x tag lx here in (
      is ∙ sym (same_count y tag ly there),
      ap (λ (n : ℕ). significant_masks (tag_fields mem_info n)) (sym is)
          ∙ masks_of_mem_info count (seven_to_nine x lx),
    ))
    (λ lx ly same equal. (
      count,
      ap (λ (n : ℕ). ok_count n) (count_is x lx),
      ap (λ (n : ℕ). ok_count n) (count_is y ly ∙ sym same),
      masks_of_mem_info count (seven_to_nine x lx),
    ))
