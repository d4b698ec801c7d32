-- Why there is no item at a path, and what is given of one.
use Rattle.std.proofs.Common.{◌≡◌, ◌==◌, ℕ, Bool, false, [], ◌∷◌, length, Result, IfOk, Some, inl, inr}
use Rattle.std.proofs.lemmas.Result.{IfOk-weaker}
use Rattle.toml_edit_model.specs.Text.{Text}
use Rattle.toml_edit_model.specs.Tree.{Node, Tree}
use Rattle.toml_edit_command.specs.Written.{Held, IsHeldOf}
use Rattle.toml_edit_parser.specs.Options.{mode_of, version_of}
use Rattle.toml_edit_parser.specs.declared.options.ParseOptions.{ParseOptions}
use Rattle.toml_edit_c.specs.Asks.{options_by}
use Rattle.toml_edit_c.specs.Items.{HasItem, IsHeldBy, IsItemAt, StopsItem}
use Rattle.toml_edit_c.specs.Made.{MayStopPath, StopsReadingBy}
use Rattle.toml_edit_c.specs.declared.answer.Stop.{Stop}
use Rattle.toml_edit_c.specs.declared.answer.Stop.TheVariants.{Memory}

-- a path that is not empty is none
pub no-path : (path : Text) (t : Tree) (stop : Stop) (b : Bool) → b ≡ (length path == 0) → b ≡ false → MayStopPath path stop
    → StopsItem path t stop
no-path [] t stop b is other may = absurd cc
no-path (c ∷ path) t stop b is other may = inl may

module _ (flags : ℕ) (text : Text) (options : ParseOptions) (by : options_by flags ≡ Some (mode_of options, version_of options)) where
  pub out-of-memory : StopsReadingBy flags text Memory
  out-of-memory = inr ((mode_of options, version_of options), by, tt)

  module _ (h : Held) (read : IsHeldOf (mode_of options) (version_of options) text h) where
    pub is-held : IsHeldBy flags text h
    is-held = ((mode_of options, version_of options), by, read)

    pub item-given : (path : Text) (n : Node) → IsItemAt path h.tree n → {A E : Type 0} (r : Result A E) (Is : A → Node → Type 0) → IfOk r (λ s. Is s n) → IfOk r (λ s. HasItem flags text path (Is s))
    item-given path n at r Is is =
        IfOk-weaker r (λ s. Is s n) (λ s. HasItem flags text path (Is s)) (λ s here. (h, is-held, n, at, here)) is
