use Rattle.std.proofs.Common.{◌≡◌, ◌∙◌, Bool, ℕ, Option, Some, None, true, false, refl, ap}
use denote.Enum.Bare.{same_true}
use Rattle.std.proofs.lemmas.Bool.{eqb-true, and_parts}
use Rattle.std.specs.Bool.{OnTrue}
use Rattle.std.specs.Option.{option_eq}
use Rattle.kernel_rules.specs.declared.known.Page.{Page}
use Rattle.kernel_rules.specs.declared.known.Presence.{Presence}
use Rattle.kernel_rules.proofs.PageRuns.{flags}
use Rattle.kernel_rules.specs.contracts.known.Presence as presences
use Rattle.kernel_rules.specs.contracts.known.PagePartialEq.TheImpl as pages
use Rattle.kernel_rules.proofs.page_table.are_same.Goals as goal

fields : (a b : Page) → a.object ≡ b.object → a.missing ≡ b.missing → a.protect ≡ b.protect → a.minor ≡ b.minor → a.presence ≡ b.presence → a.guarded ≡ b.guarded → a.put ≡ b.put → a.freed ≡ b.freed → a ≡ b
fields a b o m p n s g u f =
    ap (λ (x : ℕ). record a { object = x }) o ∙ ap (λ (x : Bool). record a { object = b.object; missing = x }) m
    ∙ ap (λ (x : Bool). record a { object = b.object; missing = b.missing; protect = x }) p
    ∙ ap (λ (x : Bool). record b { minor = x; presence = a.presence; guarded = a.guarded; put = a.put; freed = a.freed }) n
    ∙ ap (λ (x : Presence). record b { presence = x; guarded = a.guarded; put = a.put; freed = a.freed }) s
    ∙ ap (λ (x : Bool). record b { guarded = x; put = a.put; freed = a.freed }) g ∙ ap (λ (x : Bool). record b { put = x; freed = a.freed }) u
    ∙ ap (λ (x : Bool). record b { freed = x }) f

of_pages : (a b : Page) → pages.eq-value.it a b ≡ true → a ≡ b
of_pages a b h =
    let o = and_parts _ _ h in
    let m = and_parts _ _ o.1 in
    let p = and_parts _ _ m.1 in
    let n = and_parts _ _ p.1 in
    let s = and_parts _ _ n.1 in
    let g = and_parts _ _ s.1 in
    let u = and_parts _ _ g.1 in
    fields a b (eqb-true a.object b.object o.0) (flags a.missing b.missing m.0) (flags a.protect b.protect p.0) (flags a.minor b.minor n.0) (same_true presences.the_type tt a.presence b.presence s.0)
    (flags a.guarded b.guarded g.0) (flags a.put b.put u.0) (flags a.freed b.freed u.1)

same : (a b : Option Page) → OnTrue (option_eq pages.eq-value.it a b) (a ≡ b)
same None None = refl
same None (Some b) = tt
same (Some a) None = tt
same (Some a) (Some b) =
    elim (pages.eq-value.it a b) as (λ (t : Bool). pages.eq-value.it a b ≡ t → OnTrue t (Some a ≡ Some b)) [
      | true ↦ λ h. ap (λ (p : Page). Some p) (of_pages a b h)
      | false ↦ λ h. tt
    ] refl

pub returns : goal.returns
returns c = rw c.eq.ensures (same c.args.page c.args.other)
