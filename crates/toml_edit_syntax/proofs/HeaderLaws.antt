-- What reads as a header is one, and a header is read again.
use Rattle.std.proofs.Common.{◌≡◌, ℕ, Bool, true, false, not, ◌==◌, ◌&&◌, List, [], ◌∷◌, ◌++◌, drop, Some, refl, sym, ap, subst, ◌∙◌, inl}
use Rattle.std.proofs.Common.{inr, arith, append_assoc, eqb-true, slice_index}
use Rattle.std.proofs.lemmas.Bool.{cases_Bool, and_parts, false≢true}
use Rattle.std.proofs.lemmas.Bool.Decides.{nat_tests}
use Rattle.toml_edit_model.specs.Text.{Text}
use Rattle.toml_edit_model.specs.Trivia.{is_blank, IsWhiteSpace, IsWholeTrivia, IsLineEnd}
use Rattle.toml_edit_model.specs.Syntax.{Segment, Header, Statement, header, path_text, opening_brackets, closing_brackets, statement_text}
use Rattle.toml_edit_model.specs.Syntax.{IsHeader, IsStatement}
use Rattle.toml_edit_laws.specs.reading.Runs.{first, split_while}
use Rattle.toml_edit_syntax.specs.Scanning.{front, line_end_rest, newline_rest, opening_at, closing_rest}
use Rattle.toml_edit_syntax.specs.ValueReading.{got, reading, path_at}
use Rattle.toml_edit_syntax.specs.Reading.{end_at, header_end_at, made_header, header_at}
use Rattle.toml_edit_laws.proofs.common.OptionSteps.{bind_some, map_some}
use Rattle.toml_edit_laws.proofs.reading.Steps.{guard_some, starts, split_parts}
use Rattle.toml_edit_laws.proofs.reading.RunLaws.{Each-run, split_while-run}
use Rattle.toml_edit_laws.proofs.reading.Begins.{begins_not}
use Rattle.toml_edit_laws.proofs.one_cut.Statements.{ending_first, IsEnding}
use Rattle.toml_edit_syntax.proofs.ScanningLaws.{front_is, front_of, blank_first, line_end_takes, line_end_again, newline_takes}
use Rattle.toml_edit_syntax.proofs.ScanningLaws.{newline_again}
use Rattle.toml_edit_syntax.proofs.ReadingSteps.{follow_got, changed_got, reading_got}
use Rattle.toml_edit_syntax.proofs.PathLaws.{EndsPath, PathTook, path_takes, path_again, path_begins, ends_path}

-- ---- the end of a line and its newline

pub record EndTook (t : Text) (e : Text × Text) (rest : Text) : Type 0 where
  pub ends : IsLineEnd e.0
  pub newline : IsEnding e.1 rest
  pub parts : t ≡ e.0 ++ (e.1 ++ rest)

pub end_takes : (t rest : Text) (e : Text × Text) → end_at t ≡ Some (e, rest) → EndTook t e rest
end_takes t rest e h =
    let last = line_end_rest t in
    let (r, found, same) = map_some (newline_rest last) (λ (r : Text). ((front t last, front last r), r)) (e, rest) h in
    let (lt, ends, lparts) = line_end_takes t in
    let (nt, newline, nparts) = newline_takes last r found in
    let both : ◌≡◌ {A = Text × Text} (lt, nt) (front t last, front last r) = ap (λ (x : Text). (x, nt)) (sym (front_of t lt last lparts))
    ∙ ap (λ (x : Text). (front t last, x)) (sym (front_of last nt r nparts)) in
    let made : EndTook t (lt, nt) r = record { ends = ends; newline = newline; parts = lparts ∙ ap (λ (x : Text). lt ++ x) nparts } in
    subst (λ (y : (Text × Text) × Text). EndTook t y.0 y.1) same (subst (λ (x : Text × Text). EndTook t x r) both made)

pub end_again : (t e rest : Text) → IsLineEnd t → IsEnding e rest → end_at (t ++ (e ++ rest)) ≡ Some ((t, e), rest)
end_again t e rest ends newline =
    rw (
      line_end_again t (e ++ rest) ends (ending_first e rest newline),
      newline_again e rest newline,
      front_is t (e ++ rest),
      front_is e rest,
    ) refl

-- a statement at the front, and what ends it
abbrev pub Entry : Text → Statement → Text → Type 0
Entry text s rest = IsStatement (λ end. IsEnding end rest) s × (text ≡ statement_text s ++ rest)

-- ---- brackets

pub opening_takes : (t : Text) → (first t == 0x5B) ≡ true → t ≡ opening_brackets (opening_at t).0 ++ (opening_at t).1
unfolding opening_at
opening_takes [] here = absurd (false≢true here)
opening_takes (c ∷ []) here = ap (λ (x : ℕ). x ∷ []) (eqb-true c 0x5B here)
opening_takes (c ∷ d ∷ cs) here =
    elim (cases_Bool (d == 0x5B)) [
      | inl two ↦ rw two (ap (λ (x : ℕ). x ∷ d ∷ cs) (eqb-true c 0x5B here) ∙ ap (λ (x : ℕ). 0x5B ∷ x ∷ cs) (eqb-true d 0x5B two))
      | inr one ↦ rw one (ap (λ (x : ℕ). x ∷ d ∷ cs) (eqb-true c 0x5B here))
    ]

opening_again : (is_array : Bool) (rest : Text) → (first rest == 0x5B) ≡ false → opening_at (opening_brackets is_array ++ rest)
    ≡ (is_array, rest)
unfolding opening_at
opening_again true rest stop = refl
opening_again false rest stop = rw stop refl

two_brackets : (t : Text) → (first t == 0x5D) ≡ true → (slice_index t 1 == 0x5D) ≡ true → t ≡ 0x5D ∷ 0x5D ∷ drop 2 t
two_brackets [] a b = absurd (false≢true a)
two_brackets (c ∷ []) a b = absurd (false≢true b)
two_brackets (c ∷ d ∷ cs) a b = ap (λ (x : ℕ). x ∷ d ∷ cs) (eqb-true c 0x5D a) ∙ ap (λ (x : ℕ). 0x5D ∷ x ∷ cs) (eqb-true d 0x5D b)

pub closing_takes : (is_array : Bool) (t rest : Text) → closing_rest is_array t ≡ Some rest → t ≡ closing_brackets is_array ++ rest
unfolding closing_rest
closing_takes true t rest e =
    let (both, same) = guard_some (first t == 0x5D && slice_index t 1 == 0x5D) (drop 2 t) rest e in
    let (one, two) = and_parts (first t == 0x5D) (slice_index t 1 == 0x5D) both in
    two_brackets t one two ∙ ap (λ (x : Text). 0x5D ∷ 0x5D ∷ x) same
closing_takes false t rest e =
    let (both, same) = guard_some (first t == 0x5D && true) (drop 1 t) rest e in
    let (one, two) = and_parts (first t == 0x5D) true both in
    starts t 0x5D one (omega arith) ∙ ap (λ (x : Text). 0x5D ∷ x) same

closing_again : (is_array : Bool) (rest : Text) → closing_rest is_array (closing_brackets is_array ++ rest) ≡ Some rest
unfolding closing_rest
closing_again true rest = refl
closing_again false rest = refl

closing_blank : (is_array : Bool) (rest : Text) → is_blank (first (closing_brackets is_array ++ rest)) ≡ false
closing_blank true rest = refl
closing_blank false rest = refl

-- ---- behind the key

pub record HeaderEndTook (is_array : Bool) (t : Text) (e : Text × (Text × Text)) (rest : Text) : Type 0 where
  pub closing : IsWhiteSpace e.0
  pub ends : IsLineEnd e.1.0
  pub newline : IsEnding e.1.1 rest
  pub parts : t ≡ e.0 ++ (closing_brackets is_array ++ (e.1.0 ++ (e.1.1 ++ rest)))

pub header_end_takes : (is_array : Bool) (t rest : Text) (e : Text × (Text × Text)) → header_end_at is_array t ≡ Some (e, rest)
    → HeaderEndTook is_array t e rest
unfolding header_end_at
header_end_takes is_array t rest e h =
    let white = split_while is_blank t in
    let (after, closed, g) = bind_some (closing_rest is_array white.1) _ (e, rest) h in
    let (f, ended, same) = map_some (end_at after) (λ (f : (Text × Text) × Text). ((white.0, f.0), f.1)) (e, rest) g in
    let took : EndTook after f.0 f.1 = end_takes after f.1 f.0 ended in
    let made : HeaderEndTook is_array t (white.0, f.0) f.1 = record {
      closing = Each-run is_blank t;
      ends = took.ends;
      newline = took.newline;
      parts = split_parts is_blank t ∙ ap (λ (x : Text). white.0 ++ x) (closing_takes is_array white.1 after closed
          ∙ ap (λ (x : Text). closing_brackets is_array ++ x) took.parts);
    } in
    subst (λ (y : (Text × (Text × Text)) × Text). HeaderEndTook is_array t y.0 y.1) same made

pub header_end_again : (is_array : Bool) (closing t e rest : Text) → IsWhiteSpace closing → IsLineEnd t → IsEnding e rest
    → header_end_at is_array (closing ++ (closing_brackets is_array ++ (t ++ (e ++ rest)))) ≡ Some ((closing, (t, e)), rest)
unfolding header_end_at
header_end_again is_array closing t e rest white ends newline =
    let after = t ++ (e ++ rest) in
    let split = split_while-run is_blank closing (closing_brackets is_array ++ after) white (closing_blank is_array after) in
    let closing-is = ap (λ (p : Text × Text). p.0) split in
    let after-is = ap (λ (p : Text × Text). p.1) split in
    rw (closing-is, after-is, closing_again is_array after, end_again t e rest ends newline) refl

-- ---- a header behind its trivia

-- the parts behind the trivia, and then this
abbrev pub header_tail : Header → Text → Text → Text
header_tail h end rest = opening_brackets h.is_array
    ++ (h.opening ++ (path_text h.path ++ (h.closing ++ (closing_brackets h.is_array ++ (h.trailing ++ (end ++ rest))))))

regroup : (a b c d e f g h rest : Text) → a ++ (b ++ (c ++ (d ++ (e ++ (f ++ (g ++ (h ++ rest)))))))
    ≡ (a ++ ((b ++ (c ++ (d ++ (e ++ f)))) ++ (g ++ h))) ++ rest
regroup a b c d e f g h rest = simp append_assoc

pub header_then : (h : Header) (end rest : Text) → h.leading ++ header_tail h end rest ≡ statement_text (header h end) ++ rest
header_then h end rest =
    regroup h.leading (opening_brackets h.is_array) h.opening (path_text h.path) h.closing (closing_brackets h.is_array) h.trailing end rest

header_made : (leading t key middle rest opening : Text) (is_array : Bool) (p : List Segment) (e : Text × (Text × Text))
    → IsWholeTrivia leading → IsWhiteSpace opening
    → t ≡ opening_brackets is_array ++ (opening ++ key) → PathTook key p middle → HeaderEndTook is_array middle e rest
    → Entry (leading ++ t) (made_header leading is_array opening p e) rest
header_made leading t key middle rest opening is_array p e trivia white parts took ended =
    let h : Header = record { leading = leading; is_array = is_array; opening = opening; path = p; closing = e.0; trailing = e.1.0 } in
    let tail : t ≡ header_tail h e.1.1 rest =
    parts
    ∙ ap (λ (x : Text). opening_brackets is_array ++ (opening ++ x)) (took.parts ∙ ap (λ (x : Text). path_text p ++ x) ended.parts) in (
      (
        (record { leading = trivia; segments = took.spaced; opening = white; closing = ended.closing; trailing = ended.ends }, took.path),
        ended.newline,
      ),
      ap (λ (x : Text). leading ++ x) tail ∙ header_then h e.1.1 rest,
    )

pub header_takes : (leading t rest : Text) (s : Statement) → IsWholeTrivia leading → (first t == 0x5B) ≡ true → header_at leading t
    ≡ got s rest → Entry (leading ++ t) s rest
unfolding header_at
header_takes leading t rest s trivia here e =
    let brackets = opening_at t in
    let white = split_while is_blank brackets.1 in
    let (p, middle, found, g) = follow_got (reading (path_at white.1)) _ s rest e in
    let (f, ended, same) = changed_got (made_header leading brackets.0 white.0 p) (reading (header_end_at brackets.0 middle)) s rest g in
    let parts : t ≡ opening_brackets brackets.0 ++ (white.0 ++ white.1) = opening_takes t here
    ∙ ap (λ (x : Text). opening_brackets brackets.0 ++ x) (split_parts is_blank brackets.1) in
    subst (λ (y : Statement). Entry (leading ++ t) y rest) same
    (header_made leading t white.1 middle rest white.0 brackets.0 p f trivia (Each-run is_blank brackets.1) parts
    (path_takes white.1 middle p (reading_got (path_at white.1) p middle found))
    (header_end_takes brackets.0 middle rest f (reading_got (header_end_at brackets.0 middle) f rest ended)))

-- the closing brackets end a key
ends_closing : (is_array : Bool) (b rest : Text) → IsWhiteSpace b → EndsPath (b ++ (closing_brackets is_array ++ rest))
ends_closing true b rest white = ends_path b (0x5D ∷ rest) 0x5D white refl refl refl
ends_closing false b rest white = ends_path b rest 0x5D white refl refl refl

not_true : (b : Bool) → not b ≡ true → b ≡ false
not_true true e = absurd (false≢true e)
not_true false e = refl

pub header_again : (h : Header) (end rest : Text) → IsHeader h → IsEnding end rest → header_at h.leading (header_tail h end rest)
    ≡ got (header h end) rest
unfolding header_at
header_again h end rest (spaced, path) ending =
    let last = closing_brackets h.is_array ++ (h.trailing ++ (end ++ rest)) in
    let after = h.closing ++ last in
    let key = path_text h.path ++ after in
    let begins = path_begins h.path path in
    let no_bracket = begins_not (λ c. c == 0x5B) (path_text h.path) after (λ c h. grind (arith, nat_tests)) begins in
    let past_bracket = blank_first (λ c. not (c == 0x5B)) h.opening key (λ c h. grind (arith, nat_tests)) spaced.opening
    (rw no_bracket refl) in
    let opened = opening_again h.is_array (h.opening ++ key) (not_true (first (h.opening ++ key) == 0x5B) past_bracket) in
    let opened-array = ap (λ (p : Bool × Text). p.0) opened in
    let opened-text = ap (λ (p : Bool × Text). p.1) opened in
    let split = split_while-run is_blank h.opening key spaced.opening
    (begins_not is_blank (path_text h.path) after (λ c h. grind (arith, nat_tests)) begins) in
    let opening-is = ap (λ (p : Text × Text). p.0) split in
    let key-is = ap (λ (p : Text × Text). p.1) split in
    rw (
      opened-array,
      opened-text,
      opening-is,
      key-is,
      path_again h.path after path spaced.segments (ends_closing h.is_array h.closing (h.trailing ++ (end ++ rest)) spaced.closing),
      header_end_again h.is_array h.closing h.trailing end rest spaced.closing spaced.trailing ending,
    ) refl
