-- The first word is the name of a command, or asks for help or the version.
use Rattle.std.proofs.Common.{◌∙◌, ◌∷◌, ◌-◌, ap, drop, length, map, string_bytes, sym, take}
use Rattle.std.proofs.lemmas.Result.{IfErr-weaker, IfOk-weaker}
use Rattle.std.specs.Prelude.{◌≡◌, None, Some}
use Rattle.toml_edit_files.specs.Edited.{version_by}
use Rattle.toml_edit_files.specs.Help.{topic_of}
use Rattle.toml_edit_files.specs.Requests.{IsNoCommand, IsNoneAfter, SaysAfter, SaysCommand, Shows, help_by}
use Rattle.toml_edit_files.specs.Stops.{IsMistaken, reason_of}
use Rattle.toml_edit_files.proofs.OperandLaws.{first-of, no-of}
use Rattle.toml_edit_files.proofs.RequestLaws.{none-after, none-help, none-named, says-help, says-named, says-version}
use Rattle.toml_edit_files.proofs.SplitLaws.{by-mistake, mistaken-for}
use Rattle.toml_edit_files.specs.declared.words.Command.TheVariants as commands
use Rattle.toml_edit_files.proofs.request.command_of.Goals as goal

pub returns-then-is_help-clause-says : goal.returns-then-is_help-clause-says
returns-then-is_help-clause-says c =
    let v = version_by c.args.reading in let words = c.args.words.now in let name = c.as_str-name.result.now in
    let ops = map string_bytes (take (length words - 1) (drop 1 words)) in
    let first = first-of string_bytes words c.name-item.result c.in-len1-up.len_at_least c.name-item.is ∙ ap (λ t. t ∷ ops) (sym c.as_str-name.ensures.value) in
    rw first
    (IfOk-weaker c.help_of.result (Shows (help_by ops)) (SaysCommand v (name ∷ ops))
    (λ cmd shows. says-help v name ops cmd (sym c.is_help.ensures ∙ c.if-is_help.true) shows) c.help_of.ensures.shows)

pub returns-then-is_help-clause-stops : goal.returns-then-is_help-clause-stops
returns-then-is_help-clause-stops c =
    let v = version_by c.args.reading in let words = c.args.words.now in let name = c.as_str-name.result.now in
    let ops = map string_bytes (take (length words - 1) (drop 1 words)) in
    let first = first-of string_bytes words c.name-item.result c.in-len1-up.len_at_least c.name-item.is ∙ ap (λ t. t ∷ ops) (sym c.as_str-name.ensures.value) in
    rw first
    (IfErr-weaker c.help_of.result (λ s. IsMistaken (help_by ops ≡ None) (reason_of s)) (λ s. IsMistaken (IsNoCommand v (name ∷ ops)) (reason_of s))
    (λ s h. mistaken-for (help_by ops ≡ None) (IsNoCommand v (name ∷ ops)) (reason_of s)
    (none-help v name ops (sym c.is_help.ensures ∙ c.if-is_help.true)) h)
    c.help_of.ensures.stops)

pub returns-in_default-clause-stops : goal.returns-in_default-clause-stops
returns-in_default-clause-stops c =
    let v = version_by c.args.reading in
    by-mistake (IsNoCommand v (map string_bytes c.args.words.now)) (reason_of c.wrong_words.result)
    (rw (no-of string_bytes c.args.words.now c.in_default.len_below) (λ cmd says. says)) c.wrong_words.ensures

pub returns-then-is_version-clause-says : goal.returns-then-is_version-clause-says
returns-then-is_version-clause-says c =
    let v = version_by c.args.reading in let words = c.args.words.now in let name = c.as_str-name.result.now in
    let ops = map string_bytes (take (length words - 1) (drop 1 words)) in
    let first = first-of string_bytes words c.name-item.result c.in-len1-up.len_at_least c.name-item.is ∙ ap (λ t. t ∷ ops) (sym c.as_str-name.ensures.value) in
    rw first
    (says-version v name ops (commands.Show c.in_ok-from_str.field-0) (sym c.is_help.ensures ∙ c.if-is_help.false)
    (sym c.is_version.ensures ∙ c.if-is_version.true) (ap (λ t. Some t) (sym c.in_ok-from_str.ensures.ok)))

pub returns-in-Some-clause-says : goal.returns-in-Some-clause-says
returns-in-Some-clause-says c =
    let v = version_by c.args.reading in let words = c.args.words.now in let name = c.as_str-name.result.now in
    let ops = map string_bytes (take (length words - 1) (drop 1 words)) in let topic = c.in-Some.topic in
    let first = first-of string_bytes words c.name-item.result c.in-len1-up.len_at_least c.name-item.is ∙ ap (λ t. t ∷ ops) (sym c.as_str-name.ensures.value) in
    rw first
    (IfOk-weaker c.operands_of.result (SaysAfter v topic ops) (SaysCommand v (name ∷ ops))
    (λ cmd says. says-named v name ops (sym c.is_help.ensures ∙ c.if-is_help.false) (sym c.is_version.ensures ∙ c.if-is_version.false) cmd topic
    (sym c.in-Some.ensures) says)
    c.operands_of.ensures.says)

pub returns-in-Some-clause-stops : goal.returns-in-Some-clause-stops
returns-in-Some-clause-stops c =
    let v = version_by c.args.reading in let words = c.args.words.now in let name = c.as_str-name.result.now in
    let ops = map string_bytes (take (length words - 1) (drop 1 words)) in let topic = c.in-Some.topic in
    let first = first-of string_bytes words c.name-item.result c.in-len1-up.len_at_least c.name-item.is ∙ ap (λ t. t ∷ ops) (sym c.as_str-name.ensures.value) in
    rw first
    (IfErr-weaker c.operands_of.result (λ s. IsMistaken (IsNoneAfter v topic ops) (reason_of s))
    (λ s. IsMistaken (IsNoCommand v (name ∷ ops)) (reason_of s))
    (λ s h. mistaken-for (IsNoneAfter v topic ops) (IsNoCommand v (name ∷ ops)) (reason_of s)
    (none-after v name ops (sym c.is_help.ensures ∙ c.if-is_help.false) (sym c.is_version.ensures ∙ c.if-is_version.false) topic
    (sym c.in-Some.ensures)) h)
    c.operands_of.ensures.stops)

pub returns-in-None-clause-stops : goal.returns-in-None-clause-stops
returns-in-None-clause-stops c =
    let v = version_by c.args.reading in let words = c.args.words.now in let name = c.as_str-name.result.now in
    let ops = map string_bytes (take (length words - 1) (drop 1 words)) in
    let first = first-of string_bytes words c.name-item.result c.in-len1-up.len_at_least c.name-item.is ∙ ap (λ t. t ∷ ops) (sym c.as_str-name.ensures.value) in
    rw first
    (by-mistake (IsNoCommand v (name ∷ ops)) (reason_of c.no_command.result)
    (none-named v name ops (sym c.is_help.ensures ∙ c.if-is_help.false) (sym c.is_version.ensures ∙ c.if-is_version.false)
    (sym c.in-None.ensures))
    c.no_command.ensures)
