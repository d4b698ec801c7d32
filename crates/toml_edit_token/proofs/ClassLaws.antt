-- Where a run of the bytes of a class ends.
use Rattle.std.proofs.Common.{ℕ, List, IsUtf8, arith}
use Rattle.std.proofs.lemmas.Bool.Decides.{nat_tests}
use Rattle.std.specs.List.{prefix_len}
use Rattle.std.specs.Str.{IsCharBoundary}
use Rattle.toml_edit_model.specs.Trivia.{is_blank, is_visible}
use Rattle.toml_edit_model.specs.Spelling.{is_plain, is_literal, is_bare_byte}
use Rattle.toml_edit_laws.specs.reading.Runs.{is_word_byte}
use Rattle.toml_edit_laws.proofs.reading.RunLaws.{IsCharBoundary-ascii_run, IsCharBoundary-wide_run}
use Rattle.toml_edit_token.specs.declared.run.Class.{Class}
use Rattle.toml_edit_token.specs.declared.run.Class.TheVariants.{Blank, Visible, Plain, Literal, Bare, Word}
use Rattle.toml_edit_token.specs.Classes.{class_test}

-- a run of any class ends where a character does
pub IsCharBoundary-run : (class : Class) (bs : List ℕ) → IsUtf8 bs → IsCharBoundary bs (prefix_len (class_test class) bs)
IsCharBoundary-run Blank bs utf8 = IsCharBoundary-ascii_run is_blank bs utf8 (λ c e. grind (arith, nat_tests))
IsCharBoundary-run Bare bs utf8 = IsCharBoundary-ascii_run is_bare_byte bs utf8 (λ c e. grind (arith, nat_tests))
IsCharBoundary-run Word bs utf8 = IsCharBoundary-ascii_run is_word_byte bs utf8 (λ c e. grind (arith, nat_tests))
IsCharBoundary-run Visible bs utf8 = IsCharBoundary-wide_run is_visible bs (λ c e. grind (arith, nat_tests))
IsCharBoundary-run Plain bs utf8 = IsCharBoundary-wide_run is_plain bs (λ c e. grind (arith, nat_tests))
IsCharBoundary-run Literal bs utf8 = IsCharBoundary-wide_run is_literal bs (λ c e. grind (arith, nat_tests))
