-- `script::asked_command` meets its contract: the first word decides.
-- Assumes nothing.
use mathlib.Core.Path.{ap, ◌∙◌}
use Rattle.script.specs.Quoted.{quoted}
use Rattle.script.specs.Script.{asked_lose, asked_keep, asked_give}
use Rattle.script.proofs.Lines.{begun, stripped, is_pass, is_lose, is_keep, is_give, is_noise, is_other}
use Rattle.script.proofs.asked_command.Goals as goal

pub returns-then-starts_with : goal.returns-then-starts_with
returns-then-starts_with c = is_pass c.args.line.now (begun _ _ c.starts_with.ensures.value ∙ c.if-starts_with.true)

pub returns-in-Some : goal.returns-in-Some
returns-in-Some c =
    c.asked_lose.ensures ∙ ap asked_lose c.in-Some.ensures.cases.1
    ∙ is_lose c.args.line.now (begun (quoted "pass ") _ c.starts_with.ensures.value ∙ c.if-starts_with.false)
    (stripped (quoted "lose ") _ c.in-Some.ensures.cases.0)

pub returns-in-Some-strip_prefix : goal.returns-in-Some-strip_prefix
returns-in-Some-strip_prefix c =
    c.asked_keep.ensures ∙ ap asked_keep c.in-Some-strip_prefix.ensures.cases.1
    ∙ is_keep c.args.line.now (begun (quoted "pass ") _ c.starts_with.ensures.value ∙ c.if-starts_with.false) (stripped (quoted "lose ") _ c.in_default.ensures.cases)
    (stripped (quoted "keep ") _ c.in-Some-strip_prefix.ensures.cases.0)

pub returns-in-Some-strip_prefix-2 : goal.returns-in-Some-strip_prefix-2
returns-in-Some-strip_prefix-2 c =
    c.asked_give.ensures ∙ ap asked_give c.in-Some-strip_prefix-2.ensures.cases.1
    ∙ is_give c.args.line.now (begun (quoted "pass ") _ c.starts_with.ensures.value ∙ c.if-starts_with.false) (stripped (quoted "lose ") _ c.in_default.ensures.cases)
    (stripped (quoted "keep ") _ c.in_default-strip_prefix.ensures.cases) (stripped (quoted "give ") _ c.in-Some-strip_prefix-2.ensures.cases.0)

pub returns-then-starts_with-2 : goal.returns-then-starts_with-2
returns-then-starts_with-2 c =
    is_noise c.args.line.now (begun (quoted "pass ") _ c.starts_with.ensures.value ∙ c.if-starts_with.false) (stripped (quoted "lose ") _ c.in_default.ensures.cases)
    (stripped (quoted "keep ") _ c.in_default-strip_prefix.ensures.cases) (stripped (quoted "give ") _ c.in_default-strip_prefix-2.ensures.cases) (begun _ _ c.starts_with-2.ensures.value ∙ c.if-starts_with-2.true)

pub returns : goal.returns
returns c =
    c.asked_phone.ensures
    ∙ is_other c.args.line.now (begun (quoted "pass ") _ c.starts_with.ensures.value ∙ c.if-starts_with.false) (stripped (quoted "lose ") _ c.in_default.ensures.cases)
    (stripped (quoted "keep ") _ c.in_default-strip_prefix.ensures.cases) (stripped (quoted "give ") _ c.in_default-strip_prefix-2.ensures.cases) (begun _ _ c.starts_with-2.ensures.value ∙ c.if-starts_with-2.false)
