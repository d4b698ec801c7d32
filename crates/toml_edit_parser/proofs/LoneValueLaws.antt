-- A lone value, read as a value over its text and then given its own texts.
use Rattle.std.proofs.Common.{◌≡◌, ◌⊎◌, inl, inr, refl, sym, ap, ◌∙◌, subst, ℕ, ◌+◌, arith, true, false, List, [], ◌++◌, length, append-nil}
use Rattle.std.proofs.Common.{Some, Bool, rules}
use Rattle.std.specs.Prelude.{Contains, Result, Ok, Err, IsErrOf, IsOk}
use Rattle.std.proofs.lemmas.Bool.{false≢true}
use Rattle.toml_edit_model.specs.Mode.{plain}
use Rattle.toml_edit_model.specs.Text.{Text, is_empty}
use Rattle.toml_edit_model.specs.Syntax.{Value, value_text}
use Rattle.toml_edit_model.specs.Conversions.{with_decor}
use Rattle.toml_edit_model.specs.Faults.{value_faults}
use Rattle.toml_edit_model.specs.Lone.{IsLoneValue, IsLoneItem, is_accepted_value}
use Rattle.toml_edit_model.specs.Tree.{Decor, unset, Node, nothing, leaf, list, inline, table, tables, IsWellMade}
use Rattle.toml_edit_model.specs.TreeOf.{spanned_form, owned_form, decor_at, IsValueNode}
use Rattle.toml_edit_laws.specs.Standing.{Stands}
use Rattle.toml_edit_laws.proofs.values.OwnedBytes.{owned_byte}
use Rattle.toml_edit_laws.proofs.values.ValueFaults.{value_faults_right, is_right_value-faults, wrong_by-fault}
use Rattle.toml_edit_laws.proofs.values.ValueLaws.{value_owned, value_well_made}
use Rattle.toml_edit_model.specs.Messages.{IsSyntaxFault, syntax_messages}
use Rattle.toml_edit_error.specs.Report.{Report, fault_of}
use Rattle.toml_edit_error.specs.Fault.{IfToml}
use Rattle.toml_edit_error.specs.declared.toml_error.ParseFault.{ParseFault}
use Rattle.toml_edit_error.specs.declared.toml_error.ParseFault.TheVariants.{Toml, Memory}
use Rattle.toml_edit_syntax.specs.declared.event.Event.{Event}
use Rattle.toml_edit_syntax.specs.declared.event.Span.{Span}
use Rattle.toml_edit_syntax.specs.declared.lexer.SyntaxFault.{SyntaxFault}
use Rattle.toml_edit_syntax.specs.declared.lexer.SyntaxFault.TheVariants as faults
use Rattle.toml_edit_syntax.specs.declared.mistake.Mistake.{Mistake}
use Rattle.toml_edit_syntax.specs.LoneEvents.{AreLoneEvents, ValueOpensTooMany}
use Rattle.toml_edit_syntax.specs.ValueEvents.{value_events, are_deep, shortened}
use Rattle.toml_edit_parser.proofs.ReadLaws.{within_depth}
use Rattle.toml_edit_parser.specs.LoneValue.{IsLoneReading, IsLoneRefusal}
use Rattle.toml_edit_parser.specs.Listed.{IsErrorOf}
use Rattle.toml_edit_parser.specs.ValueRead.{IsRead, NamesOne}
use Rattle.toml_edit_model.specs.OwnedForm.{owned_node}

-- ---- with its decor unset

-- a node with another decor is as well made
made-bare : (d : Decor) (n : Node) → IsWellMade n → IsWellMade (with_decor d n)
made-bare d nothing h = h
made-bare d (leaf s spelling old) h = h
made-bare d (list f xs) h = h
made-bare d (inline f ss) h = h
made-bare d (table f ss) h = h
made-bare d (tables e xs) h = h

-- in owned form it is as it was with another decor
owned-bare : (t : Text) (d : Decor) (n : Node) → owned_node t (with_decor unset n) ≡ with_decor unset (owned_node t (with_decor d n))
owned-bare t d nothing = refl
owned-bare t d (leaf s spelling old) = refl
owned-bare t d (list f xs) = refl
owned-bare t d (inline f ss) = refl
owned-bare t d (table f ss) = refl
owned-bare t d (tables e xs) = refl

-- ---- where it stands

pub stands : (t : Text) (v : Value) (lone : IsLoneValue t v) → Stands t (length lone.before) (value_text v)
stands t v lone = record { before = lone.before; after = lone.after; text = lone.parts; place = refl }

-- what holds of a value that is read so
pub record IsReadAlone (t : Text) (v : Value) (lone : IsLoneValue t v) (n : Node) : Type 0 where
  pub accepted : is_accepted_value v ≡ true
  pub made : IsWellMade (owned_node t (with_decor unset n))
  pub item : IsLoneItem v (owned_node t (with_decor unset n))

pub read-alone : (t : Text) (v : Value) (lone : IsLoneValue t v) (n : Node) (rest : List Event) → IsRead v (length lone.before) 0 [] n rest
    → IsReadAlone t v lone n
read-alone t v lone n rest read =
    let i = length lone.before in
    let d = decor_at spanned_form i [] (i + length (value_text v)) [] in
    let right = (value_faults_right v i 0 (omega arith)).0 read.faultless in
    let there : Stands t i (value_text v ++ []) = subst (Stands t i) (sym (append-nil (value_text v))) (stands t v lone) in
    let node : IsValueNode owned_form v i [] [] (owned_node t (with_decor d n)) =
    value_owned plain v t i [] [] (with_decor d n) lone.value there (read.node i [] [] (omega arith)) in
    let bare = owned-bare t d n in
    record {
      accepted = sym (is_right_value-faults v i) ∙ ap is_empty read.faultless;
      made = subst IsWellMade (sym bare) (made-bare unset (owned_node t (with_decor d n))
          (value_well_made plain v i [] [] (owned_node t (with_decor d n)) lone.value right.2 right.1 node));
      item = (owned_node t (with_decor d n), owned_byte plain (owned_node t (with_decor d n)) v i 0 [] [] node, bare);
    }

-- ---- by its events

module _ (t : Text) (es : List Event) (h : AreLoneEvents t es) where
  pub events_are : (v : Value) (lone : IsLoneValue t v) → es ≡ shortened 0 (value_events (length lone.before) v ++ [])
  events_are v lone = h.every v lone ∙ ap (shortened 0) (sym (append-nil (value_events (length lone.before) v)))

  -- those of a value with no fault are not cut short
  pub not_short : (v : Value) (lone : IsLoneValue t v) (n : Node) (rest : List Event) → IsRead v (length lone.before) 0 [] n rest
      → are_deep es ≡ false
  not_short v lone n rest read =
      let i = length lone.before in
      let right = (value_faults_right v i 0 (omega arith)).0 read.faultless in
      h.deep v lone ∙ within_depth v (omega (arith, right.0.0))

  -- The value is well made in owned form,
  pub lone_made : (n : Node) (rest : List Event) → ((v : Value) (lone : IsLoneValue t v) → IsRead v (length lone.before) 0 [] n rest)
      → are_deep es ≡ false
      → IsWellMade (owned_node t (with_decor unset n))
  lone_made n rest told whole = let found = h.has_value whole in (read-alone t found.0 found.1 n rest (told found.0 found.1)).made

  -- and is then the lone value.
  pub lone_read : (n m : Node) (rest : List Event) → ((v : Value) (lone : IsLoneValue t v) → IsRead v (length lone.before) 0 [] n rest)
      → are_deep es ≡ false
      → m ≡ owned_node t (with_decor unset n) → IsLoneReading t m
  lone_read n m rest told whole is =
      let found = h.has_value whole in
      let read = read-alone t found.0 found.1 n rest (told found.0 found.1) in
      record {
        value = found.0;
        lone = found.1;
        accepted = read.accepted;
        only = λ other l. h.only found.0 other found.1 l;
        item = subst (IsLoneItem found.0) (sym is) read.item;
      }

  -- Where the events are cut short, there is none.
  pub no_value : (n : Node) (rest : List Event) → ((v : Value) (lone : IsLoneValue t v) → IsRead v (length lone.before) 0 [] n rest)
      → are_deep es ≡ true
      → (v : Value) → IsLoneValue t v → ⊥
  no_value n rest told short v lone = false≢true (sym (not_short v lone n rest (told v lone)) ∙ short)

-- ---- where it is refused

pub either : (b : Bool) → (b ≡ true) ⊎ (b ≡ false)
either true = inl refl
either false = inr refl

pub lone_every : (t : Text) (v : Value) (lone : IsLoneValue t v) (e : ParseFault) → is_accepted_value v ≡ true
    → IfToml e (NamesOne t (value_faults v (length lone.before) 0)) → e ≡ Memory
lone_every t v lone (Toml r) ok h = absurd (false≢true (sym (wrong_by-fault v (length lone.before) (fault_of r) h.1) ∙ ok))
lone_every t v lone Memory ok h = refl

pub lone_refused : (t : Text) (es : List Event) (e : ParseFault) → AreLoneEvents t es
    → ((v : Value) (lone : IsLoneValue t v) → IfToml e (NamesOne t (value_faults v (length lone.before) 0)))
    → IfToml e (IsErrorOf t) → IfToml e (IsLoneRefusal t)
lone_refused t es (Toml r) are told error =
    record {
      input = error.input;
      listed = error.listed;
      names = record { names = λ v lone. (told v lone).1; allowed = error.listed.allowed };
      syntax = λ none. elim (either (are_deep es)) [
        | inl short ↦ inr (are.brackets short)
        | inr whole ↦ absurd (let found = are.has_value whole in none found.0 found.1)
      ];
      refused = λ v lone. wrong_by-fault v (length lone.before) (fault_of r) (told v lone).1;
    }
lone_refused t es Memory are told error = tt

-- a report on a text that is no lone value
pub refused_whole : (t : Text) (e : ParseFault) → ((v : Value) → IsLoneValue t v → ⊥)
    → IfToml e (IsErrorOf t)
    → IfToml e (λ r. IsSyntaxFault (fault_of r) ⊎ ValueOpensTooMany t) → IfToml e (IsLoneRefusal t)
refused_whole t (Toml r) none error syntax =
    record {
      input = error.input;
      listed = error.listed;
      names = record { names = λ v lone. absurd (none v lone); allowed = error.listed.allowed };
      syntax = λ _. syntax;
      refused = λ v lone. absurd (none v lone);
    }
refused_whole t Memory none error syntax = tt

-- the syntax of a text without events
pub syntax_refused : (t m : Text) (s : ℕ × ℕ) (e : ParseFault) → Contains syntax_messages m
    → IfToml e (λ r. r ≡ record { message = m; span = Some s; input = t })
    → IfToml e (λ r. IsSyntaxFault (fault_of r) ⊎ ValueOpensTooMany t)
syntax_refused t m s (Toml r) is h =
    inl (subst (λ (x : Report). IsSyntaxFault (fault_of x)) (sym h) (record { message = is; span = search rules }))
syntax_refused t m s Memory is h = tt

-- events that are cut short
pub brackets_refused : (t : Text) (es : List Event) (e : ParseFault) → AreLoneEvents t es → are_deep es ≡ true
    → IfToml e (λ r. IsSyntaxFault (fault_of r) ⊎ ValueOpensTooMany t)
brackets_refused t es (Toml r) are short = inr (are.brackets short)
brackets_refused t es Memory are short = tt

-- ---- a text with no events

-- a text with such events is read, or else memory ran out
pub not_text : {A : Type 0} (r : Result A SyntaxFault) (f : SyntaxFault) (mistake : Mistake) (span : Span) → r ≡ Err f → f
    ≡ faults.Text mistake span → IsOk r ⊎ IsErrOf r faults.Memory → ⊥
not_text (Ok x) f mistake span e g told = absurd cc
not_text (Err fault) f mistake span e g (inl h) = absurd cc
not_text (Err fault) f mistake span e g (inr h) = absurd cc
