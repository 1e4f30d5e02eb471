-- The numbers of a ring, from the key of its table.
use Rattle.std.specs.Prelude.{ℕ, List}
use Rattle.ring_rule.specs.declared.rule.RingKey.{RingKey}
use Rattle.ring_rule.specs.declared.view.RingNumbers.{RingNumbers}
use Rattle.ring_rule.specs.Views.{ring_of}

-- rows and row length are those of the deal
abbrev pub key_ring : {D : Type 0} → (D → List (List ℕ)) → (D → ℕ) → RingKey D → RingNumbers
key_ring rows size key = ring_of key.places key.readers (rows key.deal.value) (size key.deal.value)
