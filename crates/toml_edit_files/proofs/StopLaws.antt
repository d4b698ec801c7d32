-- An error that `?` passes on, and its message.
use Rattle.std.proofs.Common.{◌≡◌, ◌∙◌, Bool, true, false, ap, refl, subst, sym, inl, inr}
use Rattle.std.specs.Prelude.{◌≢◌, ◌⊎◌, List, Option, Some, None, Result, Ok, Err, IfErr, IfOk, IsErrAnd, IsOkAnd, MatchBool, OnErr, OnOk, string_bytes}
use Rattle.std.specs.Io.KnownBytes.{IsAtEnd}
use Rattle.std.proofs.lemmas.Result.{err_from_is_err_and}
use Rattle.toml_edit.specs.Documents.{IsRefusalIn}
use Rattle.toml_edit_error.specs.Report.{Report}
use Rattle.toml_edit_model.specs.Version.{Version}
use Rattle.file_replace.specs.Events.{Text, Event}
use Rattle.toml_edit_files.specs.Checks.{IsReadAsRefused}
use Rattle.toml_edit_files.specs.Edited.{IsNotRead}
use Rattle.toml_edit_files.specs.Folders.{IsNoHeldText, IsNoTextOf, IsReadOf, LeavesInput, is_stream}
use Rattle.toml_edit_files.specs.Notes.{unnamed}
use Rattle.toml_edit_files.specs.Outcomes.{TellsAlone, TellsOf, TellsOfFile, TellsRefused, TellsStop, WasRead}
use Rattle.toml_edit_files.specs.Refusals.{SaysRefused, refusal_text}
use Rattle.toml_edit_files.specs.Stops.{IsFailed, IsFor, IsUnread, Reads, StopsSaying, reason_of, status_of}
use Rattle.toml_edit_files.specs.declared.outcome.Done.{Done}
use Rattle.toml_edit_files.specs.declared.stop.Reason.{Reason}
use Rattle.toml_edit_files.specs.declared.stop.Reason.TheVariants.{No, Mistaken, Failed, Refused, Locked}
use Rattle.toml_edit_files.specs.declared.stop.Stop.{Stop}
use Rattle.toml_edit_files.specs.declared.stop.Stop.TheVariants.{Message, Silent, Memory}
use Rattle.toml_edit_files.specs.declared.told.Told.{Told}

pub passed : {A : Type 0} (r : Result A Stop) (stop : Stop) (P : Stop → Type 0) → IsErrAnd r (λ s. s ≡ stop) → P stop → IfErr r P
passed r stop P is holds =
    let q = err_from_is_err_and r is in
    subst (λ x. IfErr x P) (sym q.1) (subst P (sym q.2) holds)

pub on_err : {A E : Type 0} (P Q : Type 0) (r : Result A E) → (P → Q) → OnErr r P → OnErr r Q
on_err P Q (Ok x) f h = tt
on_err P Q (Err e) f h = f h

-- ---- what is said

pub saying : (P Q : Text → Type 0) (reason : Reason) (stop : Stop) → ((t : Text) → P t → Q t) → StopsSaying reason P stop → StopsSaying reason Q stop
saying P Q reason Memory f h = tt
saying P Q reason Silent f h = h
saying P Q reason (Message why note) f (said, is, same, says) = (said, is, same, f said says)

-- a text that is made is what is said
pub made_says : {A E : Type 0} (text : A → Text) (r : Result A E) (made said : Text) → IsOkAnd r (λ s. text s ≡ said)
    → IfOk r (λ s. text s ≡ made) → said ≡ made
made_says text (Ok s) made said says makes = sym says ∙ makes
made_says text (Err e) made said says makes = absurd says

-- ---- a file that is not read

-- the parser's reason is said
pub refused_so : (v w : Version) (file t : Text) (r : Report) (stop : Stop) → w ≡ v → IsRefusalIn w t r
    → StopsSaying Refused (λ said. said ≡ refusal_text file r) stop → IsNotRead v file t stop
refused_so v w file t r stop same why says =
    saying (λ said. said ≡ refusal_text file r) (SaysRefused v file t) Refused stop
    (λ said is. inr (r, subst (λ (u : Version). IsRefusalIn u t r) same why, is)) says

module _ (v : Version) (file : Text) (old new : Option (List Event)) (left : Option Text) (stop : Stop) where
  abbrev pub Says : Text → Type 0
  Says = IsReadAsRefused v file old new left

  pub unread_text : IsUnread file (IsNoTextOf file old new left) stop → IsUnread file Says stop
  unread_text (inl h) = inl h
  unread_text (inr h) = inr (saying (IsNoTextOf file old new left) Says Refused stop (λ said (bytes, read, bad). (bytes, read, inl bad)) h)

  pub unread_held : IsUnread file (IsNoHeldText file old new) stop → IsUnread file Says stop
  unread_held (inl h) = inl h
  unread_held (inr h) = inr (saying (IsNoHeldText file old new) Says Refused stop (λ said (bytes, held, bad). (bytes, inr held, inl bad)) h)

  pub unread_here : (t : Text) → IsReadOf file old new left t → IsNotRead v file t stop → IsUnread file Says stop
  unread_here t read h = inr (saying (SaysRefused v file t) Says Refused stop (λ said says. (t, read, says)) h)

-- ---- messages

pub failed_not : (file : Text) (stop : Stop) → IsFailed file stop → reason_of stop ≢ Some Refused
failed_not file Memory h is = absurd (let e : None ≡ Some Refused = is in cc)
failed_not file Silent h is = h
failed_not file (Message why note) (said, so, same, about) is = absurd (let e : Some why ≡ Some Refused = is in let f : why ≡ Failed = so in cc)

pub stop_told : (told : Told) (stop : Stop) → reason_of stop ≢ Some Refused → TellsOfFile (Err stop) told → TellsStop stop told
stop_told told Memory other tells = tells
stop_told told Silent other tells = tells
stop_told told (Message No note) other tells = tells
stop_told told (Message Mistaken note) other tells = tells
stop_told told (Message Failed note) other tells = tells
stop_told told (Message Locked note) other tells = tells
stop_told told (Message Refused note) other tells = absurd (other refl)

-- the output has the message of a refusal, unless memory runs out
pub refused_told : (Says : Text → Type 0) (told : Told) (stop : Stop) → StopsSaying Refused Says stop → TellsOfFile (Err stop) told
    → TellsRefused Says told ⊎ TellsStop Memory told
refused_told Says told Memory h tells = inr tells
refused_told Says told Silent h tells = absurd h
refused_told Says told (Message why note) (said, is, same, says) tells = by (subst (λ (r : Reason). TellsOfFile (Err (Message r note)) told) is tells)
  where
    by : TellsAlone 1 (unnamed (string_bytes note.text)) told ⊎ TellsStop Memory told → TellsRefused Says told ⊎ TellsStop Memory told
    by (inl line) = inl (said, says, subst (λ (t : Text). TellsAlone 1 (unnamed t) told) same line)
    by (inr out) = inr out

-- ---- what is left of the input

pub leaves_if : (P Q : Type 0) (name : Text) (left rest : Option Text) → (Q → P) → LeavesInput P name left rest → LeavesInput Q name left rest
leaves_if P Q name left rest f = by (is_stream name)
  where
    by : (b : Bool) → MatchBool b (P → IsAtEnd rest) (rest ≡ left) → MatchBool b (Q → IsAtEnd rest) (rest ≡ left)
    by true h = λ q. h (f q)
    by false h = h

pub reads_passed : {A : Type 0} (r : Result A Stop) (stop : Stop) → IsErrAnd r (λ s. s ≡ stop) → Reads r → IsFor Failed (reason_of stop) → ⊥
reads_passed r stop is reads =
    let q = err_from_is_err_and r is in
    subst (λ (s : Stop). IsFor Failed (reason_of s) → ⊥) q.2 (subst Reads q.1 reads)

pub ends : {A : Type 0} (file : Text) (rest : Option Text) (r : Result A Stop) → OnOk r (IsAtEnd rest) → IfErr r (IsFailed file) → Reads r → IsAtEnd rest
ends file rest (Ok x) end failed reads = end
ends file rest (Err Memory) end failed reads = absurd (reads (inl refl))
ends file rest (Err Silent) end failed reads = absurd failed
ends file rest (Err (Message why note)) end (said, is, same, about) reads = absurd (reads (inr (ap Some is)))

not_refused : (why : Option Reason) → IsFor Failed why → why ≢ Some Refused
not_refused why (inl is) other = let e : why ≡ None = is in let f : why ≡ Some Refused = other in absurd cc
not_refused why (inr is) other = let e : why ≡ Some Failed = is in let f : why ≡ Some Refused = other in absurd cc

stop_reads : (told : Told) (stop : Stop) → TellsStop stop told → WasRead told → IsFor Failed (reason_of stop) → ⊥
stop_reads told stop tells read (inl is) = read.0 (subst (λ (why : Option Reason). told.status ≡ status_of why) is tells.0.0)
stop_reads told stop tells read (inr is) = read.1 (subst (λ (why : Option Reason). told.status ≡ status_of why) is tells.0.0)

-- by the status, a file was read
pub tells_reads : (r : Result Done Stop) (told : Told) → TellsOf r told → WasRead told → Reads r
tells_reads (Ok d) told tells read = tt
tells_reads (Err s) told tells read = stop_reads told s tells read

pub file_reads : (r : Result Done Stop) (told : Told) → TellsOfFile r told → WasRead told → Reads r
file_reads (Ok d) told tells read = tt
file_reads (Err s) told tells read = λ f. stop_reads told s (stop_told told s (not_refused (reason_of s) f) tells) read f
