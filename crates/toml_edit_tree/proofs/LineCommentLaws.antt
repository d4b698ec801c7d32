-- The values of an array whose comments are set or removed.
use Rattle.std.proofs.Common.{◌≡◌, ℕ, zero, suc, ◌<◌, Bool, true, false, List, [], ◌∷◌, Some, None, ap, sym, refl, ◌∙◌, arith, length}
use Rattle.std.proofs.Common.{if◌then◌else◌}
use Rattle.std.specs.Prelude.{is_some}
use Rattle.std.proofs.lemmas.Option.{none-some, same_Some}
use Rattle.toml_edit_model.specs.ArrayCalls.{value_at}
use Rattle.toml_edit_model.specs.Comments.{side_text}
use Rattle.toml_edit_model.specs.Slots.{changed_at}
use Rattle.toml_edit_model.specs.Tree.{Node, Raw, node_decor, owned}
use Rattle.toml_edit_tree.specs.ArrayLines.{is_broken, prefix_at, with_prefix}
use Rattle.toml_edit_tree.specs.LineComments.{uncommented, without_comments_above}
use Rattle.toml_edit_tree.proofs.ArrayLineLaws.{prefix-is}

-- ---- comments above

pub some-prefix : (b : Bool) (r s : Raw) → Some r ≡ (if b then Some s else None) → (b ≡ true) × (r ≡ s)
some-prefix true r s e = (refl, same_Some r s e)
some-prefix false r s e = absurd (none-some r (sym e))

pub none-prefix : (b : Bool) (s : Raw) → None ≡ (if b then Some s else None) → b ≡ false
none-prefix true s e = absurd (none-some s e)
none-prefix false s e = refl

pub uncommented-there : (xs : List Node) (i : ℕ) → is_broken (side_text (prefix_at i xs)) ≡ true
    → changed_at i (with_prefix (owned (uncommented (side_text (prefix_at i xs))))) xs ≡ changed_at i without_comments_above xs
uncommented-there [] i e = refl
uncommented-there (x ∷ xs) zero e =
    let changed = with_prefix (owned (uncommented (side_text (node_decor x).prefix))) x in
    ap (λ t. with_prefix (owned (uncommented t)) x ∷ xs) (prefix-is x)
    ∙ ap (λ (b : Bool). (if b then changed else x) ∷ xs) (sym (ap is_broken (sym (prefix-is x)) ∙ e))
uncommented-there (x ∷ xs) (suc i) e = ap (λ l. x ∷ l) (uncommented-there xs i e)

pub uncommented-none : (xs : List Node) (i : ℕ) → is_broken (side_text (prefix_at i xs)) ≡ false
    → xs ≡ changed_at i without_comments_above xs
uncommented-none [] i e = refl
uncommented-none (x ∷ xs) zero e =
    let changed = with_prefix (owned (uncommented (side_text (node_decor x).prefix))) x in
    ap (λ (b : Bool). (if b then changed else x) ∷ xs) (sym (ap is_broken (sym (prefix-is x)) ∙ e))
uncommented-none (x ∷ xs) (suc i) e = ap (λ l. x ∷ l) (uncommented-none xs i e)

-- ---- the comment on the line

pub value-inside : (xs : List Node) (i : ℕ) → is_some (value_at i xs) ≡ true → i < length xs
value-inside [] i s = absurd cc
value-inside (x ∷ xs) zero s = omega arith
value-inside (x ∷ xs) (suc i) s = omega (arith, value-inside xs i s)
