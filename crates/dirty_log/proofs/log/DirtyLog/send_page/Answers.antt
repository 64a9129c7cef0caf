use Rattle.std.proofs.Common.{refl, ap, ◌∙◌}
use Rattle.mig_base.specs.Bytes.{contents}
use Rattle.mig_model.specs.Wire.{page_frame}
use Rattle.dirty_log.proofs.SendLemmas.{zero_shown}
use Rattle.dirty_log.proofs.log.DirtyLog.send_page.Goals as goal

pub returns : goal.returns
returns c =
    let done = c.in_ok-protect_page.ensures in
    let page = c.args.page in
    let sent = c.read.ensures.sent ∙ ap (λ space. page_frame page (contents space.host.bytes page)) done.space in (
      (refl, λ _. tt, (done.space, c.protect_page.ensures.lent)),
      record {
        space = tt;
        accepted = done.accepted;
        refused = tt;
        log = done.log;
        sent = sent;
        frame = c.read.ensures.frame done.present.1;
        err = tt;
        zero = zero_shown c.args.space.now page c.read.result c.is_in_order.ensures done.accepted sent;
      },
    )
