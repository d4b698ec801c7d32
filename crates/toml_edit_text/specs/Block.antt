-- What holds of the fields of a `Block`.
use Rattle.std.specs.Prelude.{◌≡◌, ℕ, length, IsUtf8}
use Rattle.toml_edit_text.specs.declared.block.Block.{Block}

-- its bytes are a text of `len` bytes, and `deed` is the right to give them back to `alloc`
pub record IsBlock (b : Block) (len : ℕ) : Type 0 where
  pub long : len ≡ length b.strip.items
  pub at : b.deed.at ≡ b.strip.ptr
  pub deed_len : b.deed.len ≡ len
  pub heap : b.deed.alloc ≡ b.alloc
  pub text : ∥ IsUtf8 b.strip.items ∥₁
