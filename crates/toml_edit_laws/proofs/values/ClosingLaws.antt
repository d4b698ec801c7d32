-- The text before a closing bracket, which the last element has where no comma ends the list.
use Rattle.std.proofs.Common.{◌≡◌, refl, sym, ◌∙◌, ap, subst, Bool, true, false, [], inl, inr}
use Rattle.toml_edit_laws.proofs.common.WhiteSpace.{shown-none}
use Rattle.toml_edit_model.specs.Mode.{Mode, shown_text}
use Rattle.toml_edit_model.specs.Text.{Text}
use Rattle.toml_edit_model.specs.Syntax.{array, inline_table, Elements, no_elements, element, Pairs, no_pairs, pair, IsClose, has_elements}
use Rattle.toml_edit_model.specs.Syntax.{has_pairs}
use Rattle.toml_edit_model.specs.Normal.{normal_elements}
use Rattle.toml_edit_model.specs.Print.{add_after, close_array, add_after_pairs, close_inline}
use Rattle.toml_edit_laws.proofs.common.Tests.{append-nil}

add-none : (es : Elements) → add_after [] es ≡ es
add-none no_elements = refl
add-none (element a v no_elements) = ap (λ t. element (record a { after = t }) v no_elements) (append-nil a.after)
add-none (element a v (element b w es)) = ap (element a v) (add-none (element b w es))

add-none-pairs : (ps : Pairs) → add_after_pairs [] ps ≡ ps
add-none-pairs no_pairs = refl
add-none-pairs (pair f v no_pairs) = ap (λ t. pair (record f { trailing = t }) v no_pairs) (append-nil f.trailing)
add-none-pairs (pair f v (pair g w ps)) = ap (pair f v) (add-none-pairs (pair g w ps))

-- without a comma nothing stands between the last element and the bracket
closing-text : (b comma : Bool) (t : Text) → IsClose b comma t → b ≡ true → comma ≡ false → t ≡ []
closing-text b true t h e g = absurd cc
closing-text b false t h e g = elim h.1 [ inl x ↦ (let clash : true ≡ false = sym e ∙ x in absurd cc) | inr x ↦ x ]

no-comma : (b comma : Bool) (t : Text) → IsClose b comma t → b ≡ false → comma ≡ false
no-comma b true t h e = (let clash : true ≡ false = sym h.1 ∙ e in cc)
no-comma b false t h e = refl

module _ (mode : Mode) where
  pub close-elements : (es : Elements) (comma : Bool) (t : Text) → IsClose (has_elements es) comma t
      → close_array comma (shown_text mode t) es ≡ array es comma (shown_text mode t)
  close-elements no_elements comma t h = ap (λ c. array no_elements c (shown_text mode t)) (sym (no-comma false comma t h refl))
  close-elements (element a v es) true t h = refl
  close-elements (element a v es) false t h =
      let none : t ≡ [] = closing-text true false t h refl refl in
      let bare : shown_text mode t ≡ [] = ap (shown_text mode) none ∙ shown-none mode in
      subst (λ u. close_array false u (element a v es) ≡ array (element a v es) false u) (sym bare)
      (ap (λ x. array x false []) (add-none (element a v es)))

  pub close-pairs : (ps : Pairs) (comma : Bool) (t : Text) → IsClose (has_pairs ps) comma t
      → close_inline comma (shown_text mode t) ps ≡ inline_table ps comma (shown_text mode t)
  close-pairs no_pairs comma t h = ap (λ c. inline_table no_pairs c (shown_text mode t)) (sym (no-comma false comma t h refl))
  close-pairs (pair f v ps) true t h = refl
  close-pairs (pair f v ps) false t h =
      let none : t ≡ [] = closing-text true false t h refl refl in
      let bare : shown_text mode t ≡ [] = ap (shown_text mode) none ∙ shown-none mode in
      subst (λ u. close_inline false u (pair f v ps) ≡ inline_table (pair f v ps) false u) (sym bare)
      (ap (λ x. inline_table x false []) (add-none-pairs (pair f v ps)))

  pub has-normal : (es : Elements) → has_elements (normal_elements mode es) ≡ has_elements es
  has-normal no_elements = refl
  has-normal (element a v es) = refl
