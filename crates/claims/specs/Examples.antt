-- Document 01's examples C1 to C14 as one joint fact, and the corners that neither they nor the demands notice as another.
-- Each crate states the examples of its own definitions, and proofs/Examples.antt proves both facts from theirs.
use Rattle.field.specs.Examples.{C1, C2}
use Rattle.field.specs.Examples as Field
use Rattle.polynomial.specs.Examples as Polynomial
use Rattle.mac.specs.Examples.{C3, C4}
use Rattle.mac.specs.Examples as Mac
use Rattle.members.specs.Examples as Members
use Rattle.shares.specs.Examples as Shares
use Rattle.parity.specs.Examples as Parity
use Rattle.voting.specs.Examples as Voting
use Rattle.pruning.specs.Examples.{C6, C7, C8}
use Rattle.pruning.specs.Examples as Pruning
use Rattle.decoding.specs.Examples as Decoding
use Rattle.dealing.specs.Examples.{C5, C10Dealt}
use Rattle.dealing.specs.Examples as Dealing
use Rattle.reconstruction.specs.Examples.{C9Opened, C10Opened, C11, C12, C12Default, C13, C14}
use Rattle.reconstruction.specs.Examples as Reconstruction
use Rattle.text.specs.Examples as Text
use Rattle.handin.specs.Examples.{C9Read, C10Read}
use Rattle.handin.specs.Examples as Handin
use Rattle.report.specs.Examples.{C9Printed, C10Printed}
use Rattle.report.specs.Examples as Report

pub record Examples : Type 0 where
  pub c1 : C1
  pub c2 : C2
  pub c3 : C3
  pub c4 : C4
  pub c5 : C5
  pub c6 : C6
  pub c7 : C7
  pub c8 : C8
  -- the sample text is read, opened, and printed
  pub c9 : C9Read × C9Opened × C9Printed
  -- dealt, read, refused, and printed
  pub c10 : C10Dealt × C10Read × C10Opened × C10Printed
  pub c11 : C11
  -- by quorum 2, and not by quorum 0
  pub c12 : C12 × C12Default
  pub c13 : C13
  pub c14 : C14

-- the order of refusals of every call, and what the words' limits, roundings and places are; counts before and after a strike
pub record Corners : Type 0 where
  pub field : Field.Examples
  pub polynomial : Polynomial.Examples
  pub mac : Mac.Examples
  pub members : Members.Examples
  pub shares : Shares.Examples
  pub parity : Parity.Examples
  pub voting : Voting.Examples
  pub pruning : Pruning.Examples
  pub strikes : Pruning.Strikes
  pub decoding : Decoding.Examples
  pub dealing : Dealing.Examples
  pub reconstruction : Reconstruction.Examples
  pub text : Text.Examples
  pub handin : Handin.Examples
  pub report : Report.Examples
