-- The text of a value is that of its parts.
use Rattle.std.proofs.Common.{◌≡◌, ◌≢◌, ℕ, ◌/◌, ◌%◌, ◌≤◌, nat_lt, Bool, true, false, List, [], ◌∷◌, ◌++◌, codes, fold, refl, sym, ap, ap₂, ◌∙◌, append_assoc, append-nil, arith, inl, inr}
use Rattle.std.specs.Char.{digit_char}
use Rattle.std.proofs.lemmas.Bool.{cases_Bool, ne_eqb}
use Rattle.std.proofs.lemmas.Bool.Decides.{nat_tests}
use Rattle.std.proofs.lemmas.List.Sums.{fold-append}
use Rattle.json.specs.Token.{Token}
use Rattle.json.specs.Json.{Json, null, boolean, number, string, array, object, Items, no_items, item, Members, no_members, member}
use Rattle.json.specs.Print.{ends, escape, escape_byte, print_from, quoted}
use Rattle.json.specs.Tree.{json_tokens, items_tokens, members_tokens}
use Rattle.json.proofs.Printed.Strings.{escape_byte_plain}
use Rattle.json.proofs.Printed.Tokens.{print_from-append}
use Rattle.toml_edit_model.specs.Text.{Text, has_byte}
use Rattle.toml_edit_model.specs.Spelling.{truth_text}
use Rattle.toml_edit_json.specs.Parts.{comma_after}
use Rattle.toml_edit_json.specs.Texts.{is_kept, written, written_byte}
use Rattle.toml_edit_json.specs.Values.{float_value, value_text}
use Rattle.toml_edit_json.specs.declared.runs.Form.TheVariants.{Number, Quoted}

-- ---- scalars

kept_byte : (b : ℕ) → is_kept Quoted b ≡ true → escape_byte b ≡ b ∷ []
kept_byte b kept =
    let above : 32 ≤ b = grind (arith, nat_tests) in
    escape_byte_plain b (λ is. grind (arith, nat_tests)) (λ is. grind (arith, nat_tests)) above

-- a control character that has no letter of its own
pub numbered-escape : (b : ℕ) → is_kept Quoted b ≡ false → (b ≢ 34) × (b ≢ 92) × (b ≢ 8) × (b ≢ 12) × (b ≢ 10) × (b ≢ 13) × (b ≢ 9)
    → codes "\\u00" ++ (digit_char (b / 16) ∷ digit_char (b % 16) ∷ []) ≡ escape_byte b
unfolding escape_byte
numbered-escape b other apart =
    let low : nat_lt b 32 ≡ true = grind (arith, nat_tests) in
    rw (ne_eqb b 34 apart.0, ne_eqb b 92 apart.1, ne_eqb b 8 apart.2, ne_eqb b 12 apart.3, ne_eqb b 10 apart.4, ne_eqb b 13 apart.5, ne_eqb b 9 apart.6, low) refl

written_byte-escape : (b : ℕ) → written_byte Quoted b ≡ escape_byte b
written_byte-escape b =
    elim (cases_Bool (is_kept Quoted b)) [
      | inl kept ↦ rw kept (sym (kept_byte b kept))
      | inr other ↦ rw other refl
    ]

pub written-escape : (t : Text) → written Quoted t ≡ escape t
written-escape [] = refl
written-escape (b ∷ t) = ap₂ (λ x y. x ++ y) (written_byte-escape b) (written-escape t)

pub written-quoted : (t : Text) → codes "\"" ++ (written Quoted t ++ codes "\"") ≡ quoted t
written-quoted t = ap (λ (x : Text). codes "\"" ++ (x ++ codes "\"")) (written-escape t)

pub value_text-string : (t : Text) → value_text (string t) ≡ quoted t
unfolding print_from
value_text-string t = append-nil (quoted t)

pub value_text-number : (t : Text) → value_text (number t) ≡ t
unfolding print_from
value_text-number t = append-nil t

pub value_text-boolean : (b : Bool) → value_text (boolean b) ≡ truth_text b
unfolding print_from
value_text-boolean true = refl
value_text-boolean false = refl

pub value_text-special : (t : Text) → has_byte 0x6E t ≡ true → quoted (written Number t) ≡ value_text (float_value t)
value_text-special t is = rw is (sym (value_text-string (written Number t)))

pub value_text-decimal : (t : Text) → has_byte 0x6E t ≡ false → written Number t ≡ value_text (float_value t)
value_text-decimal t is = rw is (sym (value_text-number (written Number t)))

-- ---- what comes after a value or none

mutual
  ends-json_tokens : (c : Bool) (j : Json) → fold (λ _ t. ends t) c (json_tokens j) ≡ true
  ends-json_tokens c null = refl
  ends-json_tokens c (boolean b) = refl
  ends-json_tokens c (number s) = refl
  ends-json_tokens c (string s) = refl
  ends-json_tokens c (array js) = ends-items_tokens false js
  ends-json_tokens c (object ms) = ends-members_tokens false ms

  ends-items_tokens : (c : Bool) (js : Items) → fold (λ _ t. ends t) c (items_tokens js) ≡ true
  ends-items_tokens c no_items = refl
  ends-items_tokens c (item j js) = fold-append (λ _ t. ends t) c (json_tokens j) (items_tokens js) ∙ ends-items_tokens _ js

  ends-members_tokens : (c : Bool) (ms : Members) → fold (λ _ t. ends t) c (members_tokens ms) ≡ true
  ends-members_tokens c no_members = refl
  ends-members_tokens c (member k j ms) =
      fold-append (λ _ t. ends t) false (json_tokens j) (members_tokens ms) ∙ ends-members_tokens _ ms

first_text : (c : Bool) (j : Json) → print_from c (json_tokens j) ≡ comma_after c ++ value_text j
unfolding print_from
first_text true null = refl
first_text true (boolean b) = refl
first_text true (number s) = refl
first_text true (string s) = refl
first_text true (array js) = refl
first_text true (object ms) = refl
first_text false j = refl

pub text-value : (c : Bool) (j : Json) (ts : List Token) → print_from c (json_tokens j ++ ts) ≡ (comma_after c ++ value_text j) ++ print_from true ts
text-value c j ts =
    print_from-append c (json_tokens j) ts ∙ ap (λ b. print_from c (json_tokens j) ++ print_from b ts) (ends-json_tokens c j)
    ∙ ap (λ l. l ++ print_from true ts) (first_text c j)

pub text-member : (c : Bool) (k : Text) (j : Json) (ts : List Token)
    → print_from c (Token.key k ∷ (json_tokens j ++ ts)) ≡ (comma_after c ++ (quoted k ++ (codes ":" ++ value_text j))) ++ print_from true ts
unfolding print_from
text-member true k j ts =
    ap (λ (l : Text). codes "," ++ l)
    (append_assoc (quoted k) (codes ":") _ ∙ ap (λ (l : Text). quoted k ++ (codes ":" ++ l)) (text-value false j ts)
    ∙ sym (append_assoc (quoted k) (codes ":" ++ value_text j) (print_from true ts)))
text-member false k j ts =
    append_assoc (quoted k) (codes ":") _ ∙ ap (λ (l : Text). quoted k ++ (codes ":" ++ l)) (text-value false j ts)
    ∙ sym (append_assoc (quoted k) (codes ":" ++ value_text j) (print_from true ts))

pub text-end_array : (c : Bool) → print_from c (Token.end_array ∷ []) ≡ codes "]"
unfolding print_from
text-end_array true = refl
text-end_array false = refl

pub text-end_object : (c : Bool) → print_from c (Token.end_object ∷ []) ≡ codes "}"
unfolding print_from
text-end_object true = refl
text-end_object false = refl
