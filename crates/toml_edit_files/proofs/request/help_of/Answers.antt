-- Help is on the program, or on a command.
use Rattle.std.proofs.Common.{◌≡◌, ◌∙◌, ◌∷◌, [], ap, map, string_bytes, sym, subst, None, Some}
use Rattle.std.proofs.lemmas.Result.{IfOk-weaker}
use Rattle.std.specs.Prelude.{option_map}
use Rattle.toml_edit_files.specs.Help.{help_on, topic_of}
use Rattle.toml_edit_files.specs.Requests.{Shows, help_by}
use Rattle.toml_edit_files.specs.Stops.{reason_of}
use Rattle.toml_edit_files.proofs.OperandLaws.{no-of, one-of}
use Rattle.toml_edit_files.proofs.RequestLaws.{help-more}
use Rattle.toml_edit_files.proofs.SplitLaws.{by-memory, by-mistake}
use Rattle.toml_edit_files.proofs.request.help_of.Goals as goal

pub returns-in-empty-clause-shows : goal.returns-in-empty-clause-shows
returns-in-empty-clause-shows c = rw (no-of string_bytes c.args.words.now c.in-empty.len_below) c.help_about.ensures.shows

pub returns-in-empty-clause-stops : goal.returns-in-empty-clause-stops
returns-in-empty-clause-stops c =
    by-memory (help_by (map string_bytes c.args.words.now) ≡ None) c.help_about.result c.help_about.ensures.memory

pub returns-in-Some-clause-shows : goal.returns-in-Some-clause-shows
returns-in-Some-clause-shows c =
    let words = c.args.words.now in
    let one = one-of string_bytes words c.name-item.result c.in-len1.len_at_least c.in-len1.len_below c.name-item.is
    ∙ ap (λ t. t ∷ []) (sym c.as_str.ensures.value) in
    let is : topic_of c.as_str.result.now ≡ Some c.in-Some.topic = sym c.in-Some.ensures in
    rw one
    (IfOk-weaker c.help_about-in-Some.result (Shows (Some (help_on c.in-Some.topic))) (Shows (help_by (c.as_str.result.now ∷ [])))
    (λ cmd shows. subst (λ o. Shows o cmd) (sym (ap (option_map help_on) is)) shows) c.help_about-in-Some.ensures.shows)

pub returns-in-Some-clause-stops : goal.returns-in-Some-clause-stops
returns-in-Some-clause-stops c =
    by-memory (help_by (map string_bytes c.args.words.now) ≡ None) c.help_about-in-Some.result c.help_about-in-Some.ensures.memory

pub returns-in-None-clause-stops : goal.returns-in-None-clause-stops
returns-in-None-clause-stops c =
    let words = c.args.words.now in
    let one = one-of string_bytes words c.name-item.result c.in-len1.len_at_least c.in-len1.len_below c.name-item.is
    ∙ ap (λ t. t ∷ []) (sym c.as_str.ensures.value) in
    by-mistake (help_by (map string_bytes words) ≡ None) (reason_of c.no_command.result)
    (ap help_by one ∙ ap (option_map help_on) (sym c.in-None.ensures)) c.no_command.ensures

pub returns-in_default-clause-stops : goal.returns-in_default-clause-stops
returns-in_default-clause-stops c =
    by-mistake (help_by (map string_bytes c.args.words.now) ≡ None) (reason_of c.wrong_words.result)
    (help-more string_bytes c.args.words.now c.in_default.len_at_least) c.wrong_words.ensures
