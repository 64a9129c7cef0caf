-- Streams that come in pieces.
use Rattle.std.proofs.Common.{◌≡◌, ℕ, List, [], ◌∷◌, ◌++◌, Option, Some, None, refl, sym, ap, ◌∙◌, append_assoc}
use Rattle.std.specs.List.{AllByRecursion}
use Rattle.mig_model.specs.Wire.{Sent}
use Rattle.frame_decoder.specs.declared.fault.StreamFault.{StreamFault}
use Rattle.frame_decoder.specs.declared.version.Version.{Version}
use Rattle.frame_decoder.specs.Streams.{IsSent, texts, Spells, Splits}
use Rattle.frame_decoder.proofs.Cuts.{breach_more}
use Rattle.frame_decoder.proofs.Whole.{spells_none, spells_join, texts_join}

-- more bytes came where there was no fault
pub splits_then : (a b c : Option Version) (x y : List ℕ) (fs gs : List Sent) (held now : List ℕ) (fault : Option StreamFault) → Splits a x fs held None b → Splits b (held ++ y) gs now fault c → Splits a (x ++ y) (fs ++ gs) now fault c
splits_then a b c x y fs gs held now fault s t = record {
  read = s.read ++ t.read;
  unread = t.unread;
  whole =
      ap (λ (l : List ℕ). l ++ y) s.whole ∙ append_assoc s.read s.unread y ∙ ap (λ (l : List ℕ). s.read ++ (l ++ y)) (sym s.ends.1)
      ∙ ap (λ (l : List ℕ). s.read ++ l) t.whole ∙ sym (append_assoc s.read t.read t.unread);
  spells = spells_join a b c s.read t.read fs gs s.spells t.spells;
  ends = t.ends;
}

-- bytes after a fault change nothing
pub splits_behind : (a b : Option Version) (x more : List ℕ) (fs : List Sent) (held : List ℕ) (fault : StreamFault) → Splits a x fs held (Some fault) b → Splits a (x ++ more) fs [] (Some fault) b
splits_behind a b x more fs held fault s = record {
  read = s.read;
  unread = s.unread ++ more;
  whole = ap (λ (l : List ℕ). l ++ more) s.whole ∙ append_assoc s.read s.unread more;
  spells = s.spells;
  ends = (breach_more b s.unread more fault s.ends.0, refl);
}

-- The first of some frames

pub each_front : (P : Sent → Type 0) (xs ys : List Sent) → AllByRecursion P (xs ++ ys) → AllByRecursion P xs
each_front P [] ys h = tt
each_front P (x ∷ xs) ys h = (h.0, each_front P xs ys h.1)

pub record IsFront (a : Option Version) (x : List ℕ) (fs : List Sent) : Type 0 where
  pub front : List ℕ
  pub rest : List ℕ
  pub version : Option Version
  pub whole : x ≡ front ++ rest
  pub spells : Spells a front fs version

pub spells_front : (a b : Option Version) (x : List ℕ) (fs gs : List Sent) → Spells a x (fs ++ gs) b → IsFront a x fs
spells_front a b x [] gs s = record { front = []; rest = x; version = a; whole = refl; spells = spells_none a }
spells_front a b x (f ∷ fs) gs s = record {
  front = texts s.version (f ∷ fs);
  rest = texts s.version gs;
  version = Some s.version;
  whole = s.whole ∙ texts_join s.version (f ∷ fs) gs;
  spells = record { version = s.version; whole = refl; each = each_front (IsSent s.version) (f ∷ fs) gs s.each; fixes = (s.fixes.0, refl) };
}

-- of a stream that these frames are at the front of
pub splits_front : (a b : Option Version) (x : List ℕ) (fs gs : List Sent) (held : List ℕ) (fault : Option StreamFault) → Splits a x (fs ++ gs) held fault b → IsFront a x fs
splits_front a b x fs gs held fault s =
    let f = spells_front a b s.read fs gs s.spells in
    record {
      front = f.front;
      rest = f.rest ++ s.unread;
      version = f.version;
      whole = s.whole ∙ ap (λ (l : List ℕ). l ++ s.unread) f.whole ∙ append_assoc f.front f.rest s.unread;
      spells = f.spells;
    }
