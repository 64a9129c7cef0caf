use Rattle.std.proofs.Common.{◌≡◌, Ok, Err, sym, ap, subst, ◌∙◌, ◌⊎◌, inr, arith}
use Rattle.std.proofs.lemmas.Result.{err_from_is_err_and}
use Rattle.std.specs.Option.{IfSome}
use Rattle.frame_decoder.specs.declared.fault.StreamFault.TheVariants as faults
use Rattle.frame_decoder.specs.Headers.{Header, header_at}
use Rattle.frame_decoder.specs.Heads.{IsAtFront, front_by, has_pages, header_of}
use Rattle.frame_decoder.specs.Streams.{Breach}
use Rattle.frame_decoder.specs.Taking.{Stands}
use Rattle.frame_decoder.proofs.Fronts.{next_stands}
use Rattle.frame_decoder.proofs.HeadLemmas.{bad_stands, head_stands, one_header, out_of_memory}
use Rattle.frame_decoder.proofs.head.read_head.Goals as goal

pub returns-in_err-header-clause-fault : goal.returns-in_err-header-clause-fault
returns-in_err-header-clause-fault c =
    let p = err_from_is_err_and c.from_residual.result c.from_residual.ensures.1 in
    rw (p.1, p.2) (inr (subst (Stands c.args.fixed c.args.bytes.now) c.in_err-header.ensures.front (next_stands c.args.fixed c.args.bytes.now (λ i. omega (arith, c.type_inv.bytes i)))))

pub returns-in_err-header-clause-memory : goal.returns-in_err-header-clause-memory
returns-in_err-header-clause-memory c lacks header ok = absurd (let other = sym ok ∙ c.in_err-header.ensures.fault in cc)

pub returns-in_default-clause-found : goal.returns-in_default-clause-found
returns-in_default-clause-found c =
    let bytes = c.args.bytes.now in
    let front = c.in_ok-header.ensures.front ∙ ap (λ o. front_by bytes (Ok o)) c.in_default.is in
    subst (Stands c.args.fixed bytes) front (next_stands c.args.fixed bytes (λ i. omega (arith, c.type_inv.bytes i)))

pub returns-in-Ok-clause-found : goal.returns-in-Ok-clause-found
returns-in-Ok-clause-found c =
    let bytes = c.args.bytes.now in
    head_stands c.args.fixed bytes c.body_behind-body.result.now c.in-Some.header c.in-Ok.head c.in-Ok.at (λ i. omega (arith, c.type_inv.bytes i)) (c.in_ok-header.ensures.front ∙ ap (λ o. front_by bytes (Ok o)) c.in-Some.is)
    c.body_behind-body.ensures c.in-Ok.ensures.head

pub returns-in-Err : goal.returns-in-Err
returns-in-Err c =
    let fixed = c.args.fixed in
    let bytes = c.args.bytes.now in
    let front = c.in_ok-header.ensures.front ∙ ap (λ o. front_by bytes (Ok o)) c.in-Some.is in
    let stands = bad_stands fixed bytes c.body_behind-body.result.now c.in-Some.header c.in-Err.fault (λ i. omega (arith, c.type_inv.bytes i)) front c.body_behind-body.ensures c.in-Err.ensures.head in
    let reads = subst (λ o. IfSome o (λ h. IsAtFront fixed bytes h)) c.in-Some.is c.in_ok-header.ensures.header in
    record {
      found = tt;
      bytes = tt;
      fault = subst (λ f. (f ≡ faults.NoMemory) ⊎ Breach fixed bytes f) (sym c.body_fault.ensures) stands;
      memory = λ lacks header ok.
          ap (λ (h : Header). has_pages h.tag) (one_header (header_at fixed bytes) header (header_of c.in-Some.header) ok reads.reads)
          ∙ c.in-Err.ensures.memory (ap Err (out_of_memory c.in-Err.fault c.body_fault.result c.body_fault.ensures lacks));
    }
