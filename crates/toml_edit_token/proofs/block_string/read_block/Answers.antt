-- Each piece is added as the string is read.
use Rattle.std.proofs.Common.{◌≡◌, ◌∙◌, ◌++◌, ℕ, List, Option, Some, sym, ap, subst, string_bytes, encode_utf8, rules, arith}
use Rattle.std.proofs.lemmas.Grind.{common_steps}
use Rattle.toml_edit_laws.specs.reading.Tokens.{whole}
use Rattle.toml_edit_laws.specs.reading.BlockReading.{block_at}
use Rattle.toml_edit_token.specs.declared.block_string.Piece.{Piece}
use Rattle.toml_edit_token.specs.declared.block_string.Piece.TheVariants.{Escaped}
use Rattle.toml_edit_token.specs.BlockPieces.{GoesOn}
use Rattle.toml_edit_token.proofs.BlockLoop.{Next, opened, unopened, own_goes}
use Rattle.toml_edit_token.proofs.block_string.read_block.Goals as goal

pub returns-in_default : goal.returns-in_default
returns-in_default c = sym (ap whole (unopened c.args.text.now c.in_default.ensures.value))

pub pieces-init : goal.pieces-init
pieces-init c = (
  search rules,
  rw c.in_ok-value.ensures.bytes (opened c.args.text.now c.in-Some.form c.in-Some.rest.now c.in-Some.ensures.value
      c.in-Some.ensures.within),
)

pub pieces-preserved-in_ok-push_str-in-Own : goal.pieces-preserved-in_ok-push_str-in-Own
pieces-preserved-in_ok-push_str-in-Own c =
    let l = c.pieces in
    let grown : string_bytes l.value ++ c.in-Own.own.now ≡ string_bytes c.push_str.new.self = grind (arith, common_steps) in (
      search rules,
      subst (λ (x : List ℕ). GoesOn c.in-Some.form (block_at c.args.text.now) x c.in-Some-next_piece.next.now) grown
          (own_goes c.in-Some.form _ (string_bytes l.value) l.rest.now c.in-Some-next_piece.next.now l.invariant.1 c.in-Own.own.now
          (subst (λ (p : Piece). Next c.in-Some.form l.rest.now p c.in-Some-next_piece.next.now) c.in-Own.is
          c.in-Some-next_piece.ensures.piece)),
    )

pub pieces-preserved-in_ok-push-in-Escaped-Some : goal.pieces-preserved-in_ok-push-in-Escaped-Some
pieces-preserved-in_ok-push-in-Escaped-Some c =
    let same : c.in-Some-next_piece.piece ≡ Escaped (Some c.in-Escaped-Some.c) =
    c.in-Escaped-Some.is ∙ ap (λ (o : Option ℕ). Escaped o) (rw c.in-Escaped-Some.is at c.in-Escaped-Some.field-0-is) in
    let l = c.pieces in
    let grown : string_bytes l.value ++ encode_utf8 c.in-Escaped-Some.c ≡ string_bytes c.push.new.self = grind (arith, common_steps) in (
      search rules,
      subst (λ (x : List ℕ). GoesOn c.in-Some.form (block_at c.args.text.now) x c.in-Some-next_piece.next.now) grown
          (own_goes c.in-Some.form _ (string_bytes l.value) l.rest.now c.in-Some-next_piece.next.now l.invariant.1
          (encode_utf8 c.in-Escaped-Some.c)
          (subst (λ (p : Piece). Next c.in-Some.form l.rest.now p c.in-Some-next_piece.next.now) same c.in-Some-next_piece.ensures.piece)),
    )
