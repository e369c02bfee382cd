-- Where a class has not the object identifier, its superclasses are asked.
use Rattle.std.proofs.Common.{[]}
