use Rattle.std.proofs.lemmas.Result.{IfOk-weaker}
use Rattle.audit.proofs.Verdicts.{as_json, as_text}
use Rattle.audit.proofs.summary.summary.Goals as goal

pub returns-in-Text : goal.returns-in-Text
returns-in-Text c =
    IfOk-weaker c.text_summary.result _ _ (λ text parts. as_text c.args.form c.args.certificate c.args.front.now.calls c.in_ok-line.line.items c.deref.result.now text.items c.in-Text.is c.in_ok-line.ensures c.deref.ensures.value parts) c.text_summary.ensures

pub returns : goal.returns
returns c =
    IfOk-weaker c.json_summary.result _ _ (λ text parts. as_json c.args.form c.args.certificate c.args.front.now.calls c.in_ok-line.line.items c.deref-in-Json.result.now text.items c.in-Json.is c.in_ok-line.ensures c.deref-in-Json.ensures.value parts) c.json_summary.ensures
