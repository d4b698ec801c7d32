-- What holds of the fields of a `Leaked`.
use Rattle.std.specs.Prelude.{◌≡◌, ℕ, length, IsUtf8}
use Rattle.toml_edit_text.specs.declared.leaked.Leaked.{Leaked}

-- they show a text of `len` bytes, from its first to its last
pub record IsLeaked (t : Leaked) (len : ℕ) : Type 0 where
  pub at : t.ptr ≡ t.shown.ptr
  pub whole : len ≡ length t.shown.items
  pub utf8 : ∥ IsUtf8 t.shown.items ∥₁
