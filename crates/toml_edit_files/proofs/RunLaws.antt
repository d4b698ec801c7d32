-- How commands end.
use Rattle.std.proofs.Common.{◌≡◌, ◌+◌, false, true, Bool, List, [], ◌∷◌, ℕ, suc, ◌++◌, ◌∙◌, ap, length, length-append, take, arith, refl, subst, sym, inl, inr, Bor}
use Rattle.std.specs.Prelude.{◌⊎◌, ◌≢◌, ◌&&◌, ◌||◌, not, ◌==◌, if◌then◌else◌, bytes_eq, codes, is_none, unwrap_or, Option, Some, None, Result, Ok, Err, IfOk, IfErr, MatchBool, Vec, string_bytes}
use Rattle.std.specs.declared.alloc.Global.{Global}
use Rattle.std.specs.Option.{option_copied}
use Rattle.std.proofs.KnownBytes.{Appends-trans}
use Rattle.std.proofs.lemmas.List.{take-append-le, take_all}
use Rattle.std.specs.Io.KnownBytes.{Appends}
use Rattle.toml_edit_io.specs.Streams.{AppendsBeginning}
use Rattle.toml_edit_model.specs.Version.{Version}
use Rattle.file_replace.specs.Events.{Text, Event}
use Rattle.toml_edit_files.proofs.FolderLaws.{stops_later}
use Rattle.toml_edit_files.proofs.StopLaws.{failed_not, refused_told, stop_told}
use Rattle.toml_edit_files.specs.Checks.{ChecksFile, IsReadAsRefused}
use Rattle.toml_edit_files.specs.EditFiles.{EditsFile, HasNoEdits, is_in_place, is_shown, target_of}
use Rattle.toml_edit_files.specs.Edited.{version_by}
use Rattle.toml_edit_files.specs.Folders.{IsTextOf, OnlyLooks, Stops, is_stream}
use Rattle.toml_edit_files.specs.FormatFiles.{FormatsDone, FormatsElsewhere, FormatsFile, FormatsInPlace, IsCompared, IsFormatted, IsNotFormatted, IsUnformatted}
use Rattle.toml_edit_files.specs.Outcomes.{Tells, TellsOf, TellsOfFile, TellsRefused, TellsStop}
use Rattle.toml_edit_files.specs.Runs.{Adds, AnswersQuestion, EndsCommand, HasNone, Writes, memory_line, write_line}
use Rattle.toml_edit_files.specs.Stops.{IsUnread, reason_of}
use Rattle.toml_edit_files.specs.declared.stop.Reason.{Reason}
use Rattle.toml_edit_files.specs.declared.stop.Reason.TheVariants as reasons
use Rattle.toml_edit_files.specs.declared.stop.Stop.TheVariants as stops
use Rattle.toml_edit_files.specs.declared.words.Command.TheVariants as commands
use Rattle.toml_edit_files.specs.declared.words.Question.{Question}
use Rattle.toml_edit_files.specs.declared.outcome.Done.{Done}
use Rattle.toml_edit_files.specs.declared.stop.Stop.{Stop}
use Rattle.toml_edit_edits.specs.declared.edit.Edit.{Edit}
use Rattle.toml_edit_files.specs.declared.told.Told.{Told}
use Rattle.toml_edit_files.specs.declared.words.EditCommand.{EditCommand}
use Rattle.toml_edit_files.specs.declared.words.Fmt.{Fmt}
use Rattle.toml_edit_files.specs.declared.words.Reading.{Reading}

-- standard input that is formatted, or where that stops
pub formatted_input : (reading : Reading) (c : Fmt) (file : Text) (told : Told) (old new : Option (List Event)) (left : Option Text)
    (r : Result Done Stop) → is_stream file ≡ true → IfOk r (λ d. FormatsDone reading c file d.yes (string_bytes d.output) old new left)
    → IfOk r (λ d. string_bytes d.notes ≡ [])
    → IfErr r (λ s. Stops file old new (reason_of s)) → IfErr r (IsUnformatted reading c.style file old new left)
    → TellsOf r told → FormatsFile reading c file told old new left
formatted_input reading c file told old new left (Ok d) stream done quiet stop unmade tells =
    inl (d.yes, string_bytes d.output, done, (tells.0, tells.1 ∙ quiet))
formatted_input reading c file told old new left (Err s) stream done quiet stop unmade tells =
    inr (inr (s, stop, (λ other. absurd (let e : true ≡ false = sym stream ∙ other in cc)), unmade, tells))

-- so is a file, which may be refused
pub formatted_file : (reading : Reading) (c : Fmt) (file : Text) (told : Told) (old new : Option (List Event)) (left : Option Text)
    (r : Result Done Stop) → is_stream file ≡ false → IfOk r (λ d. FormatsDone reading c file d.yes (string_bytes d.output) old new left)
    → IfOk r (λ d. string_bytes d.notes ≡ [])
    → IfErr r (λ s. Stops file old new (reason_of s)) → IfErr r (IsUnformatted reading c.style file old new left)
    → TellsOfFile r told → FormatsFile reading c file told old new left
formatted_file reading c file told old new left (Ok d) other done quiet stop unmade tells =
    inl (d.yes, string_bytes d.output, done, (tells.0, tells.1 ∙ quiet))
formatted_file reading c file told old new left (Err s) other done quiet stop (inl (inl failed)) tells =
    let differs = failed_not file s failed in inr (inr (s, stop, (λ named. differs), inl (inl failed), stop_told told s differs tells))
formatted_file reading c file told old new left (Err s) other done quiet stop (inr (t, read, none)) tells =
    let differs : reason_of s ≢ Some reasons.Refused = λ is. subst (λ (why : Option Reason). IsNotFormatted reading c.style t why) is none in
    inr (inr (s, stop, (λ named. differs), inr (t, read, none), stop_told told s differs tells))
formatted_file reading c file told old new left (Err s) other done quiet stop (inl (inr refused)) tells =
    by (refused_told (IsReadAsRefused (version_by reading) file old new left) told s refused tells)
  where
    by : TellsRefused (IsReadAsRefused (version_by reading) file old new left) told ⊎ TellsStop stops.Memory told
        → FormatsFile reading c file told old new left
    by (inl line) = inr (inl (other, line))
    by (inr out) = inr (inr (
      stops.Memory,
      stops_later file old new (reason_of s) stop,
      (λ named is. let e : None ≡ Some reasons.Refused = is in absurd cc),
      inl (inl tt),
      out,
    ))

-- a file that is not accepted
pub checked : (v : Version) (file : Text) (told : Told) (old new : Option (List Event)) (left : Option Text) (stop : Stop)
    → IsUnread file (IsReadAsRefused v file old new left) stop → OnlyLooks old new → TellsOfFile (Err stop) told → ChecksFile v file told old new left
checked v file told old new left stop (inl failed) looks tells =
    inr (inr (stop, failed, stop_told told stop (failed_not file stop failed) tells, looks))
checked v file told old new left stop (inr refused) looks tells = by (refused_told (IsReadAsRefused v file old new left) told stop refused tells)
  where
    by : TellsRefused (IsReadAsRefused v file old new left) told ⊎ TellsStop stops.Memory told → ChecksFile v file told old new left
    by (inl line) = inr (inl line)
    by (inr out) = inr (inr (stops.Memory, tt, out, looks))

-- ---- commands on one file

module _ (old new : Option (List Event)) (left : Option Text) (told : Told) (reading : Reading) where
  pub asked : (q : Question) (r : Result Done Stop) → IfOk r (λ d. AnswersQuestion old new left reading q d.yes (string_bytes d.output))
      → IfOk r (λ d. string_bytes d.notes ≡ []) → IfErr r (HasNone old new left reading q) → OnlyLooks old new
      → TellsOf r told → EndsCommand old new left reading (commands.Ask q) told
  asked q (Ok d) answer quiet none looks tells = inl (d.yes, string_bytes d.output, answer, (tells.0, tells.1 ∙ quiet))
  asked q (Err s) answer quiet none looks tells = inr (s, looks, none, tells)

  pub edited : (c : EditCommand) (edits : Vec Edit Global) (r : Result Done Stop)
      → IfOk r (λ d. EditsFile reading c edits.items old new left (string_bytes d.output)) → IfOk r (λ d. d.yes ≡ true)
      → IfErr r (λ s. Stops (target_of c) old new (reason_of s)) → IfErr r (HasNoEdits reading c edits.items old new left)
      → TellsOf r told → EndsCommand old new left reading (commands.Edit c edits) told
  edited c edits (Ok d) done said stops why tells =
      inl (string_bytes d.output, done, subst (λ (b : Bool). Tells (if b then 0 else 1) (string_bytes d.output) told) said tells.0)
  edited c edits (Err s) done said stops why tells = inr (s, stops, why, tells)

-- ---- where an edited text goes

pub chosen : (A B : Type 0) (b : Bool) → b ≡ true → A → MatchBool b A B
chosen A B true is a = a
chosen A B false is a = absurd (let e : false ≡ true = is in cc)

pub chosen_not : (A B : Type 0) (b : Bool) → b ≡ false → B → MatchBool b A B
chosen_not A B false is a = a
chosen_not A B true is a = absurd (let e : false ≡ true = sym is in cc)

-- ---- a text that is formatted elsewhere

not_false : (b : Bool) → not b ≡ false → b ≡ true
not_false true is = refl
not_false false is = absurd (let e : true ≡ false = is in cc)

or_left : (a b : Bool) → a ≡ true → (a || b) ≡ true
or_left true true is = refl
or_left true false is = refl
or_left false b is = absurd (let e : false ≡ true = is in cc)

or_right : (a b : Bool) → b ≡ true → (a || b) ≡ true
or_right true true is = refl
or_right false true is = refl
or_right a false is = absurd (let e : false ≡ true = is in cc)

pub stream_so : (file : Text) (other : Bool) → other ≡ not (is_stream file) → other ≡ false → is_stream file ≡ true
stream_so file other ne is = not_false (is_stream file) (sym ne ∙ is)

module _ (reading : Reading) (c : Fmt) (file before text : Text) (old new : Option (List Event)) (left : Option Text)
    (read : IsTextOf file old new left before) (laid : IsFormatted reading c.style before text) (yes : Bool) (output : Text) where
  pub formats_out : c.check ≡ false → is_stream file ≡ true → yes ≡ true → output ≡ text → FormatsDone reading c file yes output old new left
  formats_out unchecked stream is_yes is =
      chosen (FormatsElsewhere reading c file yes output old new left) (FormatsInPlace reading c file yes output old new) (c.check || is_stream file)
      (or_right c.check (is_stream file) stream)
      (record {
        before = before;
        text = text;
        read = read;
        formatted = laid;
        answer = chosen_not _ _ c.check unchecked (is_yes, is);
      })

  pub formats_not : c.check ≡ true → yes ≡ bytes_eq text before → IsCompared c.diff file before text output
      → FormatsDone reading c file yes output old new left
  formats_not checked is_yes is =
      chosen (FormatsElsewhere reading c file yes output old new left) (FormatsInPlace reading c file yes output old new) (c.check || is_stream file)
      (or_left c.check (is_stream file) checked)
      (record {
        before = before;
        text = text;
        read = read;
        formatted = laid;
        answer = chosen _ _ c.check checked (is_yes, is);
      })

-- ---- where an edited text is put

named_so : (s : Bool) (o : Option (Bor Text)) (f : Text) → (not s && is_none o) ≡ true → unwrap_or (option_copied o) f ≡ f
named_so s None f is = refl
named_so true (Some n) f is = absurd (let e : false ≡ true = is in cc)
named_so false (Some n) f is = absurd (let e : false ≡ true = is in cc)

pub target_in_place : (c : EditCommand) → is_in_place c ≡ true → target_of c ≡ c.file.now
target_in_place c is = named_so (is_shown c) c.output c.file.now is

-- ---- no output

module _ {O : Type 0} (contents : O → Option (List ℕ)) (old new : O) (status : ℕ) (output s : Text) (same : s ≡ output) (r : Bool)
    (made : MatchBool r (Appends (contents old) (contents new) s) (AppendsBeginning (contents old) (contents new) s))
    (none : s ≡ [] → (new ≡ old) × (r ≡ true)) where
  pub written : r ≡ true → Writes contents old new status output status (if status == 3 then memory_line else [])
  written is =
      let m : Appends (contents old) (contents new) s = subst (λ (b : Bool). MatchBool b (Appends (contents old) (contents new) s)
      (AppendsBeginning (contents old) (contents new) s)) is made in
      (λ e. ((none (same ∙ e)).0, refl), inl (refl, subst (λ (t : Text). Appends (contents old) (contents new) t) same m, refl))

  pub unwritten : r ≡ false → Writes contents old new status output 4 write_line
  unwritten is =
      let m : AppendsBeginning (contents old) (contents new) s = subst (λ (b : Bool). MatchBool b (Appends (contents old) (contents new) s)
      (AppendsBeginning (contents old) (contents new) s)) is made in (
        λ e. absurd (let no : false ≡ true = sym is ∙ (none (same ∙ e)).1 in cc),
        inr (refl, subst (λ (t : Text). AppendsBeginning (contents old) (contents new) t) same m, refl),
      )

-- ---- what is added to the errors

take-both : (n : ℕ) (a b : List ℕ) → take (length a + n) (a ++ b) ≡ a ++ take n b
take-both n [] b = ap (λ k. take k b) (let e : 0 + n ≡ n = omega arith in e)
take-both n (x ∷ a) b =
    let e : length (x ∷ a) + n ≡ suc (length a + n) = omega arith in
    ap (λ k. take k (x ∷ (a ++ b))) e ∙ ap (λ l. x ∷ l) (take-both n a b)

-- the first text fails, or the second may
pub adds-begun : (old new : Option (List ℕ)) (failed : Bool) (a b : List ℕ) → AppendsBeginning old new a → failed ≡ true → Adds old new failed (a ++ b)
adds-begun old new failed a b (n, within, appends) is = (
  (n, (let long = length-append a b in omega (arith, within, long)), subst (Appends old new) (sym (take-append-le n a b within)) appends),
  (λ works. absurd (let no : false ≡ true = sym works ∙ is in cc)),
)

pub adds-both : (old mid new : Option (List ℕ)) (failed : Bool) (a b : List ℕ) (r : Bool) → Appends old mid a
    → MatchBool r (Appends mid new b) (AppendsBeginning mid new b) → (r ≡ false → failed ≡ true) → Adds old new failed (a ++ b)
adds-both old mid new failed a b true p q fails =
    let all = Appends-trans old mid new a b p q in
    ((length (a ++ b), omega arith, subst (Appends old new) (sym (take_all (length (a ++ b)) (a ++ b) (omega arith))) all), (λ works. all))
adds-both old mid new failed a b false p (n, within, q) fails = (
  (
    length a + n,
    (let long = length-append a b in omega (arith, within, long)),
    subst (Appends old new) (sym (take-both n a b)) (Appends-trans old mid new a (take n b) p q),
  ),
  (λ works. absurd (let no : false ≡ true = sym works ∙ fails refl in cc)),
)
