-- All ones in fields 0 to 6 ask for the default options.
use Rattle.std.proofs.Common.{Ok, ◌≡◌, sym, ap, ◌∙◌, List, ℕ, ◌-◌, ◌^◌, ◌<◌, lit<}
use Rattle.options.specs.Defaults.{default_options}
use Rattle.sheet.specs.Sheets.{field, or_default, parsed}
use Rattle.sheet.specs.declared.limits.Limits.{Limits}
use Rattle.sheet.specs.declared.parse.Sheet.{Sheet}
use Rattle.sheet.proofs.Accepting.{accepted_passed}

ones_default : (x default : ℕ) → x ≡ 2 ^ 64 - 1 → or_default x default ≡ default
unfolding or_default
ones_default x default h = rw h

pub options_by_default : (l : Limits) (s : List ℕ) (h : Sheet) → ((i : ℕ) → i < 7 → field s i ≡ 2 ^ 64 - 1) → parsed l s ≡ Ok h → h.options ≡ default_options
unfolding default_options
options_by_default l s h ones e =
    ap (λ (h : Sheet). h.options) (sym (accepted_passed l s h e).is)
    ∙ rw (
      ones_default _ _ (ones 0 (lit< tt)),
      ones_default _ _ (ones 1 (lit< tt)),
      ones_default _ _ (ones 2 (lit< tt)),
      ones_default _ _ (ones 3 (lit< tt)),
      ones_default _ _ (ones 4 (lit< tt)),
      ones_default _ _ (ones 5 (lit< tt)),
      ones_default _ _ (ones 6 (lit< tt)),
    )
