-- One reading of each stream.
use Rattle.std.proofs.Common.{◌≡◌, ℕ, List, [], ◌∷◌, ◌++◌, length, take, drop, Option, Some, None, Result, Ok, Err, refl, sym, ap, subst, ◌∙◌, append_assoc, arith, inl, inr}
use Rattle.std.specs.List.{AllByRecursion}
use Rattle.std.proofs.lemmas.List.Concat.{flat_map-cons}
use Rattle.mig_model.specs.Wire.{Sent}
use Rattle.page_stream.specs.Texts as machine
use Rattle.page_stream.specs.Texts.{text, body_text, IsEncodable}
use Rattle.page_stream.proofs.Encodable.{encodable}
use Rattle.page_stream.proofs.OneText.{same_text}
use Rattle.frame_decoder.specs.declared.fault.StreamFault.{StreamFault}
use Rattle.frame_decoder.specs.declared.version.Version.{Version}
use Rattle.frame_decoder.specs.declared.version.Version.TheVariants as versions
use Rattle.frame_decoder.specs.Versions.{version_of, tag_of, IsFrameIn}
use Rattle.frame_decoder.specs.Headers.{Header, header_at}
use Rattle.frame_decoder.specs.Streams.{IsSent, texts, May, Fixes, IsPart, Breach, LeavesHeld, Splits, Held}
use Rattle.frame_decoder.specs.Feeding.{fresh, Feed, IsFeedRun, bytes_fed, all_frames}
use Rattle.frame_decoder.proofs.FieldLemmas.{ok_is}
use Rattle.frame_decoder.proofs.Fronts.{HeadIs, head_again}
use Rattle.frame_decoder.proofs.Cuts.{any_cut}

-- Written again

pub written_again : (version : Version) (sent : Sent) → IsSent version sent → IsEncodable machine.Version.Two sent.epoch sent.frame
written_again version sent h = encodable sent.epoch sent.frame h.epoch h.frame.right

pub read_back : (version : Version) (sent : Sent) → IsSent version sent → IsEncodable (version_of version) sent.epoch sent.frame
read_back version sent h = let two = written_again version sent h in record { has = h.frame.has; epoch_fits = h.epoch; whole = two.whole; fits = two.fits }

-- Where a reading ends

pub header_or_fault : (header : Header) (fault : StreamFault) (read : Result Header StreamFault) → read ≡ Ok header → read ≡ Err fault → ⊥
header_or_fault header fault read a b = cc

pub same_header : (a b : Header) (read : Result Header StreamFault) → read ≡ Ok a → read ≡ Ok b → a ≡ b
same_header a b read e f = ok_is a b (sym e ∙ f)

same_error : (a b : StreamFault) (read : Result Header StreamFault) → read ≡ Err a → read ≡ Err b → a ≡ b
same_error a b read e f = cc

not_part : (fixed : Option Version) (bytes : List ℕ) (fault : StreamFault) → IsPart fixed bytes → Breach fixed bytes fault → ⊥
not_part fixed bytes fault (inl p) (inl b) = omega (arith, p.short, b.long)
not_part fixed bytes fault (inl p) (inr b) = omega (arith, p.short, b.long)
not_part fixed bytes fault (inr p) (inl b) = header_or_fault p.header fault (header_at fixed bytes) p.reads b.reads
not_part fixed bytes fault (inr p) (inr b) = let same = ap (λ (h : Header). h.len) (same_header p.header b.header (header_at fixed bytes) p.reads b.reads) in omega (arith, p.short, b.whole, same)

one_breach : (fixed : Option Version) (bytes : List ℕ) (a b : StreamFault) → Breach fixed bytes a → Breach fixed bytes b → a ≡ b
one_breach fixed bytes a b (inl x) (inl y) = same_error a b (header_at fixed bytes) x.reads y.reads
one_breach fixed bytes a b (inl x) (inr y) = absurd (header_or_fault y.header a (header_at fixed bytes) y.reads x.reads)
one_breach fixed bytes a b (inr x) (inl y) = absurd (header_or_fault x.header b (header_at fixed bytes) x.reads y.reads)
one_breach fixed bytes a b (inr x) (inr y) = x.is ∙ sym y.is

pub record SameEnd (r q : List ℕ) (a b : Option StreamFault) : Type 0 where
  pub held : r ≡ q
  pub fault : a ≡ b

one_end : (fixed : Option Version) (unread r q : List ℕ) (a b : Option StreamFault) → LeavesHeld fixed unread r a → LeavesHeld fixed unread q b → SameEnd r q a b
one_end fixed unread r q None None x y = record { held = x.1 ∙ sym y.1; fault = refl }
one_end fixed unread r q None (Some b) x y = absurd (not_part fixed unread b x.0 y.0)
one_end fixed unread r q (Some a) None x y = absurd (not_part fixed unread a y.0 x.0)
one_end fixed unread r q (Some a) (Some b) x y = record { held = x.1 ∙ sym y.1; fault = ap (λ (f : StreamFault). Some f) (one_breach fixed unread a b x.0 y.0) }

-- no frame stands where a reading ends

abbrev head_of : Version → Sent → Header
head_of v sent = record { version = v; tag = tag_of sent.frame; epoch = sent.epoch; len = length (body_text sent.frame) }

pub part_no_frame : (fixed : Option Version) (bytes : List ℕ) (v : Version) (sent : Sent) → HeadIs fixed bytes v sent.epoch sent.frame → IsPart fixed bytes → ⊥
part_no_frame fixed bytes v sent head (inl p) = omega (arith, p.short, head.long)
part_no_frame fixed bytes v sent head (inr p) = let same = ap (λ (h : Header). h.len) (same_header p.header (head_of v sent) (header_at fixed bytes) p.reads head.reads) in omega (arith, p.short, head.long, same)

pub breach_no_frame : (fixed : Option Version) (bytes : List ℕ) (v : Version) (sent : Sent) (fault : StreamFault) → IsFrameIn v sent.frame → HeadIs fixed bytes v sent.epoch sent.frame → Breach fixed bytes fault → ⊥
breach_no_frame fixed bytes v sent fault fits head (inl b) = header_or_fault (head_of v sent) fault (header_at fixed bytes) head.reads b.reads
breach_no_frame fixed bytes v sent fault fits head (inr b) =
    let same : head_of v sent ≡ b.header = same_header (head_of v sent) b.header (header_at fixed bytes) head.reads b.reads in
    b.none sent.frame (subst (λ (h : Header). IsFrameIn h.version sent.frame) same fits) (ap (λ (h : Header). h.tag) same) (subst (λ (h : Header). body_text sent.frame ≡ take h.len (drop 12 bytes)) same (sym head.body))

split_first : (v : Version) (x : Sent) (xs : List Sent) (u : List ℕ) → texts v (x ∷ xs) ++ u ≡ text (version_of v) x.epoch x.frame ++ (texts v xs ++ u)
split_first v x xs u = ap (λ (t : List ℕ). t ++ u) (flat_map-cons (λ (p : Sent). text (version_of v) p.epoch p.frame) x xs) ∙ append_assoc (text (version_of v) x.epoch x.frame) (texts v xs) u

no_more : (fixed : Option Version) (v : Version) (y : Sent) (ys : List Sent) (u t held : List ℕ) (a : Option StreamFault) → May fixed v → IsSent v y → LeavesHeld fixed u held a → u ≡ texts v (y ∷ ys) ++ t → ⊥
no_more fixed v y ys u t held a may h ends eq =
    let head : HeadIs fixed u v y.epoch y.frame = subst (λ (bytes : List ℕ). HeadIs fixed bytes v y.epoch y.frame) (sym (eq ∙ split_first v y ys t)) (head_again fixed v y.epoch y.frame (texts v ys ++ t) may h) in
    by_end a ends head
  where
    by_end : (a : Option StreamFault) → LeavesHeld fixed u held a → HeadIs fixed u v y.epoch y.frame → ⊥
    by_end None ends head = part_no_frame fixed u v y head ends.0
    by_end (Some fault) ends head = breach_no_frame fixed u v y fault h.frame head ends.0

-- One reading

record SameReading (xs ys : List Sent) (u t : List ℕ) (m n : Option Version) : Type 0 where
  pub frames : xs ≡ ys
  pub unread : u ≡ t
  pub version : m ≡ n

-- the frames after the first have its version fixed before them
fixes_rest : (old : Option Version) (v : Version) (x : Sent) (xs : List Sent) (new : Option Version) → Fixes old v (x ∷ xs) new → Fixes (Some v) v xs new
fixes_rest old v x [] new h = h.1
fixes_rest old v x (y ∷ ys) new h = (refl, h.1)

of_code : machine.Version → Version
of_code machine.Version.One = versions.One
of_code machine.Version.Two = versions.Two

of_code-version_of : (v : Version) → of_code (version_of v) ≡ v
unfolding of_code
of_code-version_of versions.One = refl
of_code-version_of versions.Two = refl

same_reading : (fixed : Option Version) (v w : Version) (xs ys : List Sent) (u t r q : List ℕ) (a b : Option StreamFault) (m n : Option Version) → AllByRecursion (IsSent v) xs → AllByRecursion (IsSent w) ys → Fixes fixed v xs m → Fixes fixed w ys n
    → LeavesHeld m u r a → LeavesHeld n t q b → texts v xs ++ u ≡ texts w ys ++ t → SameReading xs ys u t m n
same_reading fixed v w [] [] u t r q a b m n hx hy fx fy ea eb eq = record { frames = refl; unread = eq; version = fx ∙ sym fy }
same_reading fixed v w [] (y ∷ ys) u t r q a b m n hx hy fx fy ea eb eq =
    absurd (no_more fixed w y ys u t r a fy.0 hy.0 (subst (λ (o : Option Version). LeavesHeld o u r a) fx ea) eq)
same_reading fixed v w (x ∷ xs) [] u t r q a b m n hx hy fx fy ea eb eq =
    absurd (no_more fixed v x xs t u q b fx.0 hx.0 (subst (λ (o : Option Version). LeavesHeld o t q b) fy eb) (sym eq))
same_reading fixed v w (x ∷ xs) (y ∷ ys) u t r q a b m n hx hy fx fy ea eb eq =
    let first = same_text (version_of v) (version_of w) x.epoch y.epoch x.frame y.frame (texts v xs ++ u) (texts w ys ++ t) (read_back v x hx.0) (read_back w y hy.0) (sym (split_first v x xs u) ∙ eq ∙ split_first w y ys t) in
    let version : v ≡ w = sym (of_code-version_of v) ∙ ap of_code first.version ∙ of_code-version_of w in
    let fy2 : Fixes (Some v) w ys n = subst (λ (o : Version). Fixes (Some o) w ys n) (sym version) (fixes_rest fixed w y ys n fy) in
    let more = same_reading (Some v) v w xs ys u t r q a b m n hx.1 hy.1 (fixes_rest fixed v x xs m fx) fy2 ea eb first.rest in
    let same : x ≡ y = λ i. record { epoch = first.epoch i; frame = first.frame i } in
    record { frames = ap (λ (n : Sent). n ∷ xs) same ∙ ap (λ (ns : List Sent). y ∷ ns) more.frames; unread = more.unread; version = more.version }

pub record SameSplit (xs ys : List Sent) (r q : List ℕ) (a b : Option StreamFault) (m n : Option Version) : Type 0 where
  pub frames : xs ≡ ys
  pub held : r ≡ q
  pub fault : a ≡ b
  pub version : m ≡ n

pub one_split : (fixed : Option Version) (stream : List ℕ) (xs ys : List Sent) (r q : List ℕ) (a b : Option StreamFault) (m n : Option Version) → Splits fixed stream xs r a m → Splits fixed stream ys q b n → SameSplit xs ys r q a b m n
one_split fixed stream xs ys r q a b m n s t =
    let eq : texts s.spells.version xs ++ s.unread ≡ texts t.spells.version ys ++ t.unread =
    ap (λ (x : List ℕ). x ++ s.unread) (sym s.spells.whole) ∙ sym s.whole ∙ t.whole ∙ ap (λ (x : List ℕ). x ++ t.unread) t.spells.whole in
    let same = same_reading fixed s.spells.version t.spells.version xs ys s.unread t.unread r q a b m n s.spells.each t.spells.each s.spells.fixes t.spells.fixes s.ends t.ends eq in
    let other : LeavesHeld m s.unread q b = subst (λ (o : Option Version). LeavesHeld o s.unread q b) (sym same.version) (subst (λ (u : List ℕ). LeavesHeld n u q b) (sym same.unread) t.ends) in
    let end = one_end m s.unread r q a b s.ends other in
    record { frames = same.frames; held = end.held; fault = end.fault; version = same.version }

pub same_cuts : (feeds others : List Feed) (new last : Held) → IsFeedRun fresh feeds new → IsFeedRun fresh others last → bytes_fed feeds ≡ bytes_fed others → SameSplit (all_frames feeds) (all_frames others) new.bytes last.bytes new.fault last.fault new.version last.version
same_cuts feeds others new last run other same =
    one_split None (bytes_fed others) (all_frames feeds) (all_frames others) new.bytes last.bytes new.fault last.fault new.version last.version
    (subst (λ (stream : List ℕ). Splits None stream (all_frames feeds) new.bytes new.fault new.version) same (any_cut feeds new run)) (any_cut others last other)

pub same_held : (new last : Held) (xs ys : List Sent) → SameSplit xs ys new.bytes last.bytes new.fault last.fault new.version last.version → new ≡ last
same_held new last xs ys h = λ i. record { bytes = h.held i; fault = h.fault i; version = h.version i }
