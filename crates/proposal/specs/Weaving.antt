-- What the private functions promise one another about the finished recording, as they hold it: the input's events, and marks that say before which of
-- them a yield is put. A reader of the public promise need not read this.
use Rattle.std.specs.Prelude.{ℕ, zero, suc, Bool, false, cond, List, [], ◌∷◌, ◌++◌, length, get_or}
use Rattle.record.specs.declared.Event.{Event}
use Rattle.graph.specs.Held.{past_end}
use Rattle.proposal.specs.Walk.{Placed, given, yield_for, events_in}
use Rattle.proposal.specs.Proposed.{bytes_of}

-- an event with its mark: whether a yield is put right before it
unfoldable pub placed_as : Bool → Event → List Placed
placed_as mark e = cond mark (yield_for e ∷ given e ∷ []) (given e ∷ [])

-- the first n events
unfoldable pub woven : ℕ → List Event → List Bool → List Placed
woven zero es marks = []
woven (suc n) es marks = woven n es marks ++ placed_as (get_or marks n false) (get_or es n past_end)

-- and all
abbrev pub woven_all : List Event → List Bool → List Placed
woven_all es marks = woven (length es) es marks

-- the bytes of these
unfoldable pub bytes_in : List Placed → List ℕ
bytes_in ps = bytes_of (events_in ps)
