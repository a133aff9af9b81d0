-- Old versions as a page's meaning lists them, and that each is older than the one before.
-- Assumes nothing.
use Rattle.std.specs.Prelude.{◌≡◌, true, List, [], ◌∷◌}
use Rattle.order.specs.declared.Ver.{Ver}
use Rattle.order.specs.Version.{newer_than}
use Rattle.pages.specs.Meaning.{Older}
use Rattle.build_sources.specs.Source.{Entry}

-- an older version and its value
unfoldable pub olders_of : List Entry → List Older
olders_of [] = []
olders_of (e ∷ es) = (record { ver = e.ver; value = e.val }) ∷ olders_of es

-- "versions of a key grow strictly older", from version t on
unfoldable pub Aged : Ver → List Entry → Type 0
Aged t [] = Unit {0}
Aged t (e ∷ es) = (newer_than t e.ver ≡ true) × Aged e.ver es
