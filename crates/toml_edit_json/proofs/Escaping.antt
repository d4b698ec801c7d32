-- What is put into a sink between quotes, call by call.
use Rattle.std.proofs.Common.{List, ℕ, [], ◌++◌, refl, sym, ◌∙◌}
use Rattle.std.specs.Borrow.{MutBor}
use Rattle.std.proofs.lemmas.Grind.{flat_map-append}
use Rattle.json.specs.Print.{escape_byte}
use Rattle.toml_edit_io.proofs.Puts.{put_none, put_two}
use Rattle.toml_edit_json.specs.Escapes.{Escapes}

module _ {S : Type 0} (puts : S → List ℕ → S → Type 0) where
  pub escapes_none : (f : MutBor S) → Escapes puts f [] f
  escapes_none f = record { same_reference = refl; wrote = put_none _ _ refl }

  pub escapes_both : (f g h : MutBor S) (a b : List ℕ) → Escapes puts f a g → Escapes puts g b h → Escapes puts f (a ++ b) h
  escapes_both f g h a b one two = record {
    same_reference = two.same_reference ∙ one.same_reference;
    wrote = put_two _ _ _ _ _ _ one.wrote two.wrote (sym (flat_map-append escape_byte a b));
  }
