-- The bytes in front of those of pages.
use Rattle.std.specs.Prelude.{◌≡◌, ℕ, ◌<◌, ◌≤◌, ◌+◌, ◌^◌, List, ◌++◌, length}
use Rattle.std.specs.List.{flat_map}
use Rattle.mig_base.specs.declared.TheConstants.{HIGH_PAGE, MAX_RUN}
use Rattle.mig_model.specs.Bounds.{IsPage}
use Rattle.mig_model.specs.Wire.{Frame}
use Rattle.page_stream.specs.Texts.{HasWholePages, text}
use Rattle.page_stream.specs.Texts.Version.{Two}

-- the bytes, and after them those of the page, are the text of a Page: its head
abbrev pub IsPageHead : List ℕ → ℕ → ℕ → Type 0
IsPageHead bytes epoch page = (content : List ℕ) → HasWholePages (Frame.Page page content) → bytes ++ content ≡ text Two epoch (Frame.Page page content)

-- the bytes, and after them those of the pages, are the text of a Run of `count` pages: its head
abbrev pub IsRunHead : List ℕ → ℕ → ℕ → ℕ → Type 0
IsRunHead bytes epoch first count =
    (pages : List (List ℕ)) → length pages ≡ count → HasWholePages (Frame.Run first pages) → bytes ++ flat_map (λ page. page) pages ≡ text Two epoch (Frame.Run first pages)

-- the bytes are the head of a Page that may come: its epoch has 32 bits, and its page lies in the address space
pub record IsHeadOfPage (bytes : List ℕ) (epoch page : ℕ) : Type 0 where
  pub head : IsPageHead bytes epoch page
  pub epoch_fits : epoch < 2 ^ 32
  pub in_space : IsPage page

-- the bytes are the head of a Run that may come: its epoch has 32 bits, and its 1 to MAX_RUN pages lie in the address space
pub record IsHeadOfRun (bytes : List ℕ) (epoch first count : ℕ) : Type 0 where
  pub head : IsRunHead bytes epoch first count
  pub epoch_fits : epoch < 2 ^ 32
  pub in_space : IsPage first
  pub some : 0 < count
  pub few : count ≤ MAX_RUN
  pub last : first + count ≤ HIGH_PAGE
