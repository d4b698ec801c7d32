-- Worked refusals by the relations that contracts cite: the first faulty statement with those
-- before it, and a fault of it.
use Rattle.std.specs.Prelude.{◌≡◌, refl, ℕ, zero, suc, false, [], ◌∷◌, codes, Some, None}
use Rattle.std.specs.List.{AllByRecursion}
use Rattle.std.proofs.Common.{lit<, inl, inr}
use Rattle.toml_edit_model.specs.Text.{Text}
use Rattle.toml_edit_model.specs.Syntax.{Statement, Document, IsSpacedSegment, IsSpelledSegment}
use Rattle.toml_edit_model.specs.Paths.{Placed, source_of, mentions_of, Context, start_context, context_after}
use Rattle.toml_edit_model.specs.Faults.{Fault, IsFirstFault}
use Rattle.toml_edit_model.specs.Messages.{syntax_messages}
use Rattle.toml_edit_model.specs.Lone.{MayRefusePath}
use Rattle.toml_edit_model.specs.examples.Parts.{line, head, document, a, b, x, int, one_value, two_value}
use Rattle.toml_edit_model.specs.examples.Cuts.{is_bare}
use Rattle.toml_edit_model.specs.examples.Refusals.{copies}
use Rattle.toml_edit_model.specs.examples.Limits.{dotted_text}

abbrev at : Text → ℕ → ℕ → Fault
at message start end = record { message = message; span = Some (start, end) }

-- a statement in its place
abbrev in_place : Context → Statement → Placed
in_place c s = record { source = source_of c s; mentions = mentions_of c s }

-- a document of two statements whose second is faulty, and its places
abbrev doc : Statement → Statement → Document
doc s r = document (s ∷ r ∷ [])

abbrev first : Statement → Statement → Placed
first s r = in_place (start_context (doc s r)) s

abbrev second : Statement → Statement → Placed
second s r = in_place (context_after (start_context (doc s r)) s) r

-- `a = 1`, `a = 2`
twice : IsFirstFault (doc (line (a ∷ []) one_value) (line (a ∷ []) two_value))
    (at (codes "duplicate key") 6 7)
twice =
    record {
      earlier = first (line (a ∷ []) one_value) (line (a ∷ []) two_value) ∷ [];
      statement = second (line (a ∷ []) one_value) (line (a ∷ []) two_value);
      first = record { later = []; split = refl; right = refl; faulty = refl };
      stands = (0, lit< tt, refl);
    }

-- `a = 1`, `[a.b]`
extended : IsFirstFault (doc (line (a ∷ []) one_value) (head false (a ∷ b ∷ [])))
    (at (codes "cannot extend value of type integer with a dotted key") 7 8)
extended =
    record {
      earlier = first (line (a ∷ []) one_value) (head false (a ∷ b ∷ [])) ∷ [];
      statement = second (line (a ∷ []) one_value) (head false (a ∷ b ∷ []));
      first = record { later = []; split = refl; right = refl; faulty = refl };
      stands = (0, lit< tt, refl);
    }

-- `x = 9223372036854775808`, and after it `x = 1`
abbrev overflows : Statement
overflows = line (x ∷ []) (int 9223372036854775808 (codes "9223372036854775808"))

overflowed : IsFirstFault (doc overflows (line (x ∷ []) one_value))
    (at (codes "integer number overflowed") 4 23)
overflowed =
    record {
      earlier = [];
      statement = first overflows (line (x ∷ []) one_value);
      first = record {
        later = second overflows (line (x ∷ []) one_value) ∷ [];
        split = refl;
        right = refl;
        faulty = refl;
      };
      stands = (0, lit< tt, refl);
    }

-- ---- a lone path

spelled_copies : (n : ℕ) → AllByRecursion IsSpelledSegment (copies n a)
spelled_copies zero = tt
spelled_copies (suc n) = (is_bare (codes "a") refl refl, spelled_copies n)

spaced_copies : (n : ℕ) → AllByRecursion IsSpacedSegment (copies n a)
spaced_copies zero = tt
spaced_copies (suc n) = ((refl, refl), spaced_copies n)

-- of 81 segments: the limit is named, with no span
long_path : MayRefusePath (dotted_text 80)
    (record { message = codes "recursion limit"; span = None })
long_path =
    inl (
      refl,
      (
        [],
        copies 81 a,
        [],
        record {
          parts = refl;
          path = record { begins = refl; ends = refl; spelled = spelled_copies 81 };
          spaced = spaced_copies 81;
          white_before = refl;
          white_after = refl;
          long = refl;
        },
      ),
    )

-- `a..b`: a message for texts outside the grammar, somewhere
no_path : MayRefusePath (codes "a..b") (at (codes "expected a key") 2 3)
no_path = inr (record { message = (1, lit< tt, refl); span = refl })

-- ---- messages

all_messages : syntax_messages
    ≡ codes "unexpected character" ∷ codes "expected a key" ∷ codes "expected ="
    ∷ codes "expected a value" ∷ codes "expected a newline" ∷ codes "unclosed string"
    ∷ codes "unclosed array" ∷ codes "unclosed inline table" ∷ codes "unclosed header"
    ∷ codes "invalid escape" ∷ codes "invalid number" ∷ codes "invalid date-time"
    ∷ codes "control character" ∷ codes "carriage return without line feed" ∷ []
all_messages = refl
