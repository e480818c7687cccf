-- What gates keep, each law held by a function of src/laws.rt.
use Rattle.std.specs.Prelude.{◌≡◌, ℕ, ◌^◌, ◌<◌, ◌≢◌, List, reverse, length, bit_and, slice_index}
use Rattle.parity.specs.Words.{fresh, Gate, cnot, replay}
use Rattle.parity.specs.Sets.{bit, xor_over}
use Rattle.parity.specs.Gates.{act, acts, TwoPlaces, Each}

-- the exclusive or over a set stays, if the set goes along
abbrev pub XorsSurviveGate : Type 0
XorsSurviveGate = (ws : List ℕ) (g : Gate) (x : ℕ) → TwoPlaces (length ws) g → xor_over (cnot g ws) (act g x) ≡ xor_over ws x

abbrev pub XorsSurviveGates : Type 0
XorsSurviveGates = (gs : List Gate) (ws : List ℕ) (x : ℕ) → Each (TwoPlaces (length ws)) gs → xor_over (replay gs ws) (acts gs x) ≡ xor_over ws x

-- a set that becomes a single place has its exclusive or delivered there, from any words
abbrev pub SinglePlacesDeliver : Type 0
SinglePlacesDeliver = (gs : List Gate) (ws : List ℕ) (x p : ℕ) → Each (TwoPlaces (length ws)) gs → acts gs x ≡ 2 ^ p → slice_index (replay gs ws) p ≡ xor_over ws x

-- the same gates in reverse undo gates
abbrev pub GateUndoesItself : Type 0
GateUndoesItself = (g : Gate) (x : ℕ) → g.1 ≢ g.0 → act g (act g x) ≡ x

abbrev pub ReverseUndoesOnSets : Type 0
ReverseUndoesOnSets = (n : ℕ) (gs : List Gate) (x : ℕ) → Each (TwoPlaces n) gs → acts (reverse gs) (acts gs x) ≡ x

abbrev pub ReverseUndoesOnWords : Type 0
ReverseUndoesOnWords = (gs : List Gate) (ws : List ℕ) → Each (TwoPlaces (length ws)) gs → replay (reverse gs) (replay gs ws) ≡ ws

-- different sets stay different
abbrev pub SetsStayApart : Type 0
SetsStayApart = (n : ℕ) (gs : List Gate) (x y : ℕ) → Each (TwoPlaces n) gs → acts gs x ≡ acts gs y → x ≡ y

-- over fresh words the exclusive or is the set itself
abbrev pub FreshXorsAreSets : Type 0
FreshXorsAreSets = (n x : ℕ) → x < 2 ^ n → xor_over (fresh n) x ≡ x

-- so over words that gates made from fresh ones, different sets have different exclusive ors
abbrev pub XorsTellSetsApart : Type 0
XorsTellSetsApart = (n : ℕ) (gs : List Gate) (x y : ℕ) → Each (TwoPlaces n) gs → x < 2 ^ n → y < 2 ^ n
    → xor_over (replay gs (fresh n)) x ≡ xor_over (replay gs (fresh n)) y → x ≡ y

-- words with the same bits are the same
abbrev pub BitsTellWordsApart : Type 0
BitsTellWordsApart = (y x : ℕ) → ((q : ℕ) → bit x q ≡ bit y q) → x ≡ y

-- a set that has a place of I has one after a gate whose target is in I
abbrev pub MeetingSurvivesGate : Type 0
MeetingSurvivesGate = (c t x I : ℕ) → t ≢ c → bit I t ≡ 1 → bit_and x I ≢ 0 → bit_and (act (c, t) x) I ≢ 0
