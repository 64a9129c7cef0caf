-- How the tree of a picture grows.
use Rattle.std.proofs.Common.{◌≡◌, ℕ, List, [], ◌∷◌, ◌++◌, map, reverse, refl, sym, ap, ◌∙◌, append_assoc}
use Rattle.std.proofs.lemmas.List.{append-nil, reverse-append}
use Rattle.diagram.specs.declared.name.Tag.{Tag}
use Rattle.diagram.specs.declared.name.Tag.TheVariants.{Svg}
use Rattle.diagram.specs.Escapes.{escaped}
use Rattle.diagram.specs.Trees.{Pair, Contents, Nothing, Words, Element, IsPicture, start_tag, end_tag, rendered}
use Rattle.diagram.specs.Sheets.{Opened, IsDrawn, written_inside}

-- a text more is its bytes more
pub written_words : (opened : List Opened) (inside : Contents) (text : List ℕ) → written_inside opened (Words inside text) ≡ written_inside opened inside ++ escaped text
written_words [] inside text = refl
written_words (one ∷ outer) inside text = simp append_assoc

-- an element more is its text more
pub written_element : (outer : List Opened) (before : Contents) (tag : Tag) (pairs : List Pair) (inside : Contents) → written_inside outer (Element before tag pairs inside) ≡ (written_inside outer before ++ start_tag tag pairs ++ rendered inside) ++ end_tag tag
written_element [] before tag pairs inside = simp append_assoc
written_element (one ∷ outer) before tag pairs inside = simp append_assoc

-- a picture in which nothing is open yet
pub drawn_new : (pairs : List Pair) → IsDrawn [] ([] ++ start_tag Svg pairs)
drawn_new pairs = record {
  pairs = pairs;
  opened = [];
  inside = Nothing;
  tags = refl;
  text = sym (append-nil (start_tag Svg pairs));
}

-- a text is written
pub drawn_words : (tags : List Tag) (bytes text : List ℕ) → IsDrawn tags bytes → IsDrawn tags (bytes ++ escaped text)
drawn_words tags bytes text drawn = record {
  pairs = drawn.pairs;
  opened = drawn.opened;
  inside = Words drawn.inside text;
  tags = drawn.tags;
  text = ap (λ t. t ++ escaped text) drawn.text ∙ (append_assoc (start_tag Svg drawn.pairs) (written_inside drawn.opened drawn.inside) (escaped text) ∙ ap (λ t. start_tag Svg drawn.pairs ++ t) (sym (written_words drawn.opened drawn.inside text)));
}

-- an element is opened
pub drawn_open : (tags : List Tag) (bytes : List ℕ) (tag : Tag) (pairs : List Pair) → IsDrawn tags bytes → IsDrawn (tags ++ tag ∷ []) (bytes ++ start_tag tag pairs)
drawn_open tags bytes tag pairs drawn = record {
  pairs = drawn.pairs;
  opened = record { before = drawn.inside; tag = tag; pairs = pairs } ∷ drawn.opened;
  inside = Nothing;
  tags = ap (λ rest. tag ∷ rest) drawn.tags ∙ sym (reverse-append tags (tag ∷ []));
  text = ap (λ t. t ++ start_tag tag pairs) drawn.text ∙ (append_assoc (start_tag Svg drawn.pairs) (written_inside drawn.opened drawn.inside) (start_tag tag pairs) ∙ ap (λ t. start_tag Svg drawn.pairs ++ t) (sym (append-nil (written_inside drawn.opened drawn.inside ++ start_tag tag pairs))));
}

-- the innermost element is closed
pub closed : (pairs : List Pair) (opened : List Opened) (inside : Contents) (tags : List Tag) (tag : Tag) (bytes : List ℕ) → map (λ one. one.tag) opened ≡ tag ∷ reverse tags → bytes ≡ start_tag Svg pairs ++ written_inside opened inside → IsDrawn tags (bytes ++ end_tag tag)
closed pairs [] inside tags tag bytes e text = cc
closed pairs (one ∷ outer) inside tags tag bytes e text =
    let same : one.tag ≡ tag = cc in
    record {
      pairs = pairs;
      opened = outer;
      inside = Element one.before one.tag one.pairs inside;
      tags = cc;
      text = ap (λ t. t ++ end_tag tag) text ∙ (append_assoc (start_tag Svg pairs) (written_inside (one ∷ outer) inside) (end_tag tag) ∙ ap (λ t. start_tag Svg pairs ++ t) (ap (λ t. (written_inside outer one.before ++ start_tag one.tag one.pairs ++ rendered inside) ++ end_tag t) (sym same) ∙ sym (written_element outer one.before one.tag one.pairs inside)));
    }

-- the same, of a picture
pub drawn_close : (tags : List Tag) (tag : Tag) (bytes : List ℕ) → IsDrawn (tags ++ tag ∷ []) bytes → IsDrawn tags (bytes ++ end_tag tag)
drawn_close tags tag bytes drawn =
    closed drawn.pairs drawn.opened drawn.inside tags tag bytes (drawn.tags ∙ reverse-append tags (tag ∷ [])) drawn.text

-- the text of a picture in which nothing is open
pub ended : (pairs : List Pair) (opened : List Opened) (inside : Contents) (bytes : List ℕ) → map (λ one. one.tag) opened ≡ [] → bytes ≡ start_tag Svg pairs ++ written_inside opened inside → IsPicture (bytes ++ end_tag Svg)
ended pairs [] inside bytes e text = (pairs, (inside, ap (λ t. t ++ end_tag Svg) text))
ended pairs (one ∷ outer) inside bytes e text = cc

-- the same, of a picture
pub drawn_end : (bytes : List ℕ) → IsDrawn [] bytes → IsPicture (bytes ++ end_tag Svg)
drawn_end bytes drawn = ended drawn.pairs drawn.opened drawn.inside bytes drawn.tags drawn.text
