-- C1 to C14 as one joint fact, and the corners as another.
-- Assumes nothing.
use Rattle.field.proofs.Examples as Field
use Rattle.polynomial.proofs.Examples as Polynomial
use Rattle.mac.proofs.Examples as Mac
use Rattle.members.proofs.Examples as Members
use Rattle.shares.proofs.Examples as Shares
use Rattle.parity.proofs.Examples as Parity
use Rattle.voting.proofs.Examples as Voting
use Rattle.pruning.proofs.Examples as Pruning
use Rattle.decoding.proofs.Examples as Decoding
use Rattle.dealing.proofs.Examples as Dealing
use Rattle.reconstruction.proofs.Examples as Reconstruction
use Rattle.text.proofs.Examples as Text
use Rattle.handin.proofs.Examples as Handin
use Rattle.report.proofs.Examples as Report
use Rattle.claims.specs.Examples.{Examples, Corners}

pub examples : Examples
examples =
    record {
      c1 = (Field.examples).c1;
      c2 = (Field.examples).c2;
      c3 = (Mac.examples).c3;
      c4 = (Mac.examples).c4;
      c5 = (Dealing.examples).c5;
      c6 = (Pruning.examples).c6;
      c7 = (Pruning.examples).c7;
      c8 = (Pruning.examples).c8;
      c9 = ((Handin.examples).c9_read, (Reconstruction.examples).c9_opened, (Report.examples).c9_printed);
      c10 = ((Dealing.examples).c10_dealt, (Handin.examples).c10_read, (Reconstruction.examples).c10_opened, (Report.examples).c10_printed);
      c11 = (Reconstruction.examples).c11;
      c12 = ((Reconstruction.examples).c12, (Reconstruction.examples).c12_default);
      c13 = (Reconstruction.examples).c13;
      c14 = (Reconstruction.examples).c14;
    }

pub corners : Corners
corners =
    record {
      field = Field.examples;
      polynomial = Polynomial.examples;
      mac = Mac.examples;
      members = Members.examples;
      shares = Shares.examples;
      parity = Parity.examples;
      voting = Voting.examples;
      pruning = Pruning.examples;
      strikes = Pruning.strikes;
      decoding = Decoding.examples;
      dealing = Dealing.examples;
      reconstruction = Reconstruction.examples;
      text = Text.examples;
      handin = Handin.examples;
      report = Report.examples;
    }
