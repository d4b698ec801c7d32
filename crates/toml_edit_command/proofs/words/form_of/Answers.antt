-- The name of the command is the first word.
use Rattle.std.proofs.Common.{◌≡◌, ◌≤◌, ◌<◌, ◌∙◌, ◌∷◌, [], List, String, Global, ap, arith, get_or, length, map, string_bytes, sym}
use Rattle.std.proofs.lemmas.Slice.Eq.{bytes_eq-Decides}
use Rattle.std.specs.Prelude.{Bool, true, bytes_eq, codes}
use Rattle.toml_edit_model.specs.Text.{Text}
use Rattle.toml_edit_command.proofs.words.form_of.Goals as goal

-- so many words, of which the first is this
one : (ws : List (String Global)) (a : String Global) → 1 ≤ length ws → length ws < 2 → a ≡ get_or ws 0 a
    → map string_bytes ws ≡ string_bytes a ∷ []
one [] a long short is = absurd (omega (arith, long))
one (w ∷ []) a long short is = ap (λ y. string_bytes y ∷ []) (sym is)
one (w ∷ v ∷ ws) a long short is = absurd (omega (arith, short))

two : (ws : List (String Global)) (a b : String Global) → 2 ≤ length ws → length ws < 3 → a ≡ get_or ws 0 a → b ≡ get_or ws 1 b
    → map string_bytes ws ≡ string_bytes a ∷ string_bytes b ∷ []
two [] a b long short is then = absurd (omega (arith, long))
two (w ∷ []) a b long short is then = absurd (omega (arith, long))
two (w ∷ v ∷ []) a b long short is then = ap (λ y. string_bytes y ∷ string_bytes v ∷ []) (sym is) ∙ ap (λ y. string_bytes a ∷ string_bytes y ∷ []) (sym then)
two (w ∷ v ∷ u ∷ ws) a b long short is then = absurd (omega (arith, short))

three : (ws : List (String Global)) (a b d : String Global) → 3 ≤ length ws → length ws < 4 → a ≡ get_or ws 0 a → b ≡ get_or ws 1 b
    → d ≡ get_or ws 2 d → map string_bytes ws ≡ string_bytes a ∷ string_bytes b ∷ string_bytes d ∷ []
three [] a b d long short is then last = absurd (omega (arith, long))
three (w ∷ []) a b d long short is then last = absurd (omega (arith, long))
three (w ∷ v ∷ []) a b d long short is then last = absurd (omega (arith, long))
three (w ∷ v ∷ u ∷ []) a b d long short is then last =
    ap (λ y. string_bytes y ∷ string_bytes v ∷ string_bytes u ∷ []) (sym is) ∙ ap (λ y. string_bytes a ∷ string_bytes y ∷ string_bytes u ∷ []) (sym then)
    ∙ ap (λ y. string_bytes a ∷ string_bytes b ∷ string_bytes y ∷ []) (sym last)
three (w ∷ v ∷ u ∷ x ∷ ws) a b d long short is then last = absurd (omega (arith, short))

-- the word is the name
named : (word name : Text) (value : Text) (same : Bool) → value ≡ word → same ≡ bytes_eq value name → same ≡ true → word ≡ name
named word name value same is tells true-is = sym is ∙ (bytes_eq-Decides value name).0 (sym tells ∙ true-is)

pub returns-in-len1 : goal.returns-in-len1
returns-in-len1 c =
    one c.args.words.now c.name-item.result c.in-len1.len_at_least c.in-len1.len_below c.name-item.is
    ∙ ap (λ t. t ∷ []) (named _ (codes "print") c.as_str.result.now c.eq.result c.as_str.ensures.value c.eq.ensures c.if-eq.true)

pub returns-in-len2 : goal.returns-in-len2
returns-in-len2 c =
    two c.args.words.now c.name-item-then-words-lt3.result c.path-item.result c.in-len2.len_at_least c.in-len2.len_below
    c.name-item-then-words-lt3.is c.path-item.is
    ∙ ap (λ t. t ∷ string_bytes c.path-item.result ∷ [])
    (named _ (codes "get") c.as_str-then-words-lt3.result.now c.eq-then-words-lt3.result c.as_str-then-words-lt3.ensures.value c.eq-then-words-lt3.ensures
    c.if-eq-2.true)
    ∙ ap (λ t. codes "get" ∷ t ∷ []) (sym c.as_str-in-len2.ensures.value)

pub returns-in-len2-2 : goal.returns-in-len2-2
returns-in-len2-2 c =
    two c.args.words.now c.name-item-then-words-lt3-2.result c.path-item-then-words-lt3.result c.in-len2.len_at_least c.in-len2.len_below
    c.name-item-then-words-lt3-2.is c.path-item-then-words-lt3.is
    ∙ ap (λ t. t ∷ string_bytes c.path-item-then-words-lt3.result ∷ [])
    (named _ (codes "remove") c.as_str-then-words-lt3-2.result.now c.eq-then-words-lt3-2.result c.as_str-then-words-lt3-2.ensures.value
    c.eq-then-words-lt3-2.ensures c.if-eq-3.true)
    ∙ ap (λ t. codes "remove" ∷ t ∷ []) (sym c.as_str-in-len2-2.ensures.value)

pub returns-in-len3 : goal.returns-in-len3
returns-in-len3 c =
    three c.args.words.now c.name-item-then-words-lt4.result c.path-item-then-words-lt4.result c.value-item.result c.in-len3.len_at_least
    c.in-len3.len_below c.name-item-then-words-lt4.is c.path-item-then-words-lt4.is c.value-item.is
    ∙ ap (λ t. t ∷ string_bytes c.path-item-then-words-lt4.result ∷ string_bytes c.value-item.result ∷ [])
    (named _ (codes "set") c.as_str-then-words-lt4.result.now c.eq-then-words-lt4.result c.as_str-then-words-lt4.ensures.value c.eq-then-words-lt4.ensures
    c.if-eq-4.true)
    ∙ ap (λ t. codes "set" ∷ t ∷ string_bytes c.value-item.result ∷ []) (sym c.as_str-in-len3.ensures.value)
    ∙ ap (λ t. codes "set" ∷ c.as_str-in-len3.result.now ∷ t ∷ []) (sym c.as_str-in-len3-2.ensures.value)
